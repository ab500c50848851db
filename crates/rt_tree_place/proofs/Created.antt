-- An arena after a node was made, and where other nodes got another parent.
use Rattle.std.proofs.Common.{◌≡◌, ◌⊎◌, ℕ, zero, suc, Bool, List, [], ◌∷◌, ◌++◌, length, get_or, take, drop, map, Option, None, Some, count_by, sum_by, arith, refl, ap, ◌∙◌, sym, subst, inl, inr}
use Rattle.std.specs.List.{All, range_with_len}
use Rattle.std.specs.List.Sorted.{IsPermutation}
use Rattle.std.proofs.lemmas.Option.{none-some, same_Some}
use Rattle.std.proofs.lemmas.Bool.{cases_eq}
use Rattle.std.proofs.lemmas.List.{length-map, map-append, take-append-drop}
use Rattle.std.proofs.lemmas.List.Elements.{All-nil, All-cons, All-append}
use Rattle.std.proofs.lemmas.List.Sums.{sum_by-cons}
use Rattle.std.proofs.lemmas.List.Sorted.{IsPermutation-map}
use Rattle.slab.specs.Slab.{Slab, get, Updates}
use Rattle.rt_box.specs.Rect.{IsBox}
use Rattle.rt_tree_choice.specs.declared.split.Cut.{Cut}
use Rattle.rt_tree_choice.specs.Split.{along, sorting, first_group, second_group}
use Rattle.rt_tree_choice.proofs.Sorted.{sort-permutes}
use Rattle.rt_tree_node.specs.declared.cell.Cell.{Cell}
use Rattle.rt_tree_node.specs.declared.cell.Pending.{Pending}
use Rattle.rt_tree_node.specs.Node.{NodeCells}
use Rattle.rt_tree_node.specs.Places.{key_of, rects, picked, no_cell, cells_of, leaf_part, leaf_cells_of, level_of, cells_at, level_at, sum_over}
use Rattle.rt_tree_node.specs.Open.{HasHull, IsFittedBut}
use Rattle.rt_tree_node.proofs.Fitted.{fitted-weaker, fitted-moved}
use Rattle.rt_tree_node.proofs.Sums.{sum_over-updated}
use Rattle.rt_tree_place.proofs.Positions.{picked-all}

module _ {T : Type 0} (F : Option T → ℕ) (none : F None ≡ 0) where
  sum-empty : (ys : List (Option T)) → ((i : ℕ) → F (get_or ys i None) ≡ F None) → sum_by F ys ≡ 0
  sum-empty [] h = refl
  sum-empty (y ∷ ys) h = let here = h 0 in omega (arith, sum_by-cons F y ys, none, here, sum-empty ys (λ i. h (suc i)))

  -- places of the same measure come to the same sum
  sum-alike : (xs ys : List (Option T)) → ((i : ℕ) → F (get_or ys i None) ≡ F (get_or xs i None)) → sum_by F ys ≡ sum_by F xs
  sum-alike [] ys h = sum-empty ys h
  sum-alike (x ∷ xs) [] h = sym (sum-empty (x ∷ xs) (λ i. sym (h i)))
  sum-alike (x ∷ xs) (y ∷ ys) h = let here = h 0 in omega (arith, sum_by-cons F x xs, sum_by-cons F y ys, here, sum-alike xs ys (λ i. h (suc i)))

module _ {D : ℕ} where
  pub no-leaf : (l : ℕ) → leaf_part {D = D} l [] ≡ []
  no-leaf zero = refl
  no-leaf (suc l) = refl

  leaf-alike : (s t : Option (NodeCells D)) → level_of s ≡ level_of t → cells_of s ≡ cells_of t → leaf_cells_of s ≡ leaf_cells_of t
  leaf-alike None None e f = refl
  leaf-alike None (Some n) e f = absurd (none-some n.level e)
  leaf-alike (Some m) None e f = absurd (none-some m.level (sym e))
  leaf-alike (Some m) (Some n) e f = ap (λ l. leaf_part l m.cells) (same_Some m.level n.level e) ∙ ap (leaf_part n.level) f

  pub leaves-alike : (a b : Slab (NodeCells D)) → ((x : ℕ) → level_at b x ≡ level_at a x) → ((x : ℕ) → cells_at b x ≡ cells_at a x) →
      (x : ℕ) → leaf_cells_of (get b x) ≡ leaf_cells_of (get a x)
  leaves-alike a b lv cs x = leaf-alike (get b x) (get a x) (lv x) (cs x)

  -- the leaves hold as many rows of a kind
  pub rows-alike : (test : Cell D → Bool) (a b : Slab (NodeCells D)) → ((x : ℕ) → leaf_cells_of (get b x) ≡ leaf_cells_of (get a x)) →
      sum_over (λ place. count_by test (leaf_cells_of place)) b ≡ sum_over (λ place. count_by test (leaf_cells_of place)) a
  rows-alike test a b same = sum-alike (λ place. count_by test (leaf_cells_of place)) refl a.slots b.slots (λ i. ap (count_by test) (same i))

  pub rows-created : (test : Cell D → Bool) (a b : Slab (NodeCells D)) (k l : ℕ) (up : Option ℕ) → get a k ≡ None →
      Updates a b k (Some record { level = l; parent = up; cells = [] }) →
      sum_over (λ place. count_by test (leaf_cells_of place)) b ≡ sum_over (λ place. count_by test (leaf_cells_of place)) a
  rows-created test a b k l up vacant u =
      let m : NodeCells D = record { level = l; parent = up; cells = [] } in
      let step = sum_over-updated (λ place. count_by test (leaf_cells_of place)) refl a b k (Some m) u in
      let was = ap (λ place. count_by test (leaf_cells_of place)) vacant in
      let is = ap (count_by test) (no-leaf l) in
      omega (arith, step, was, is)

  -- a new node without cells may be out of shape, and the cell that names it waits
  pub fitted-created : (E F : ℕ → Type 0) (M : ℕ) (a b : Slab (NodeCells D)) (root : ℕ) (ws : List (Pending D)) (k l : ℕ) (up : Option ℕ) (c : Cell D) →
      ((x : ℕ) → F x ⊎ (F x → ⊥)) → ((x : ℕ) → E x → F x) → F k → IsFittedBut E M a root ws →
      Updates a b k (Some record { level = l; parent = up; cells = [] }) → key_of c ≡ k → IsBox D c.rect →
      IsFittedBut F M b root (ws ++ record { level = suc l; cell = c } ∷ [])
  fitted-created E F M a b root ws k l up c decide more odd fitted u key_is box =
      let wide = fitted-weaker E F more M a root ws fitted in
      let w : Pending D = record { level = suc l; cell = c } in
      let apart = λ (x : ℕ) (fine : F x → ⊥) (e : x ≡ k). fine (subst F (sym e) odd) in
      fitted-moved F M a b root root ws (ws ++ w ∷ []) wide
      (λ x i fine e. sym (ap level_of (u.others x (apart x fine))) ∙ e)
      (λ x fine. ap cells_of (u.others x (apart x fine)))
      (λ x fine other. other) decide
      (λ x here. elim (cases_eq x k) [
        | inl at ↦ subst (λ y. All (λ q. IsBox D q.rect) (cells_at b y)) (sym at) (subst (All (λ q. IsBox D q.rect)) (sym (ap cells_of u.changed)) (All-nil (λ q. IsBox D q.rect)))
        | inr other ↦ subst (All (λ q. IsBox D q.rect)) (sym (ap cells_of (u.others x other))) (wide.boxes x)
      ])
      (λ x i here e. elim (cases_eq x k) [
        | inl at ↦ subst (λ y. All (HasHull F a) (cells_at b y)) (sym at) (subst (All (HasHull F a)) (sym (ap cells_of u.changed)) (All-nil (HasHull F a)))
        | inr other ↦ subst (All (HasHull F a)) (sym (ap cells_of (u.others x other))) (wide.hulls x i (sym (ap level_of (u.others x other)) ∙ e))
      ])
      (All-append (λ v. IsBox D v.cell.rect) ws (w ∷ []) wide.pending_boxes (All-cons (λ v. IsBox D v.cell.rect) w [] box (All-nil (λ v. IsBox D v.cell.rect))))
      (All-append (λ v. (i : ℕ) → v.level ≡ suc i → HasHull F a v.cell) ws (w ∷ []) wide.pending_hulls
      (All-cons (λ v. (i : ℕ) → v.level ≡ suc i → HasHull F a v.cell) w [] (λ i e fine. absurd (fine (subst F (sym key_is) odd)))
      (All-nil (λ v. (i : ℕ) → v.level ≡ suc i → HasHull F a v.cell))))

  -- levels and cells are the same everywhere
  pub fitted-alike : (E : ℕ → Type 0) (M : ℕ) (a b : Slab (NodeCells D)) (root : ℕ) (ws : List (Pending D)) → ((x : ℕ) → E x ⊎ (E x → ⊥)) →
      ((x : ℕ) → level_at b x ≡ level_at a x) → ((x : ℕ) → cells_at b x ≡ cells_at a x) → IsFittedBut E M a root ws → IsFittedBut E M b root ws
  fitted-alike E M a b root ws decide lv cs fitted =
      fitted-moved E M a b root root ws ws fitted (λ x l fine e. sym (lv x) ∙ e) (λ x fine. cs x) (λ x fine other. other) decide
      (λ x odd. subst (All (λ q. IsBox D q.rect)) (sym (cs x)) (fitted.boxes x))
      (λ x l odd e. subst (All (HasHull E a)) (sym (cs x)) (fitted.hulls x l (sym (lv x) ∙ e)))
      fitted.pending_boxes fitted.pending_hulls

  -- the cells of the two groups of a cut
  pub picked-groups : (cells : List (Cell D)) (cut : Cut) →
      IsPermutation cells (picked cells (first_group (rects cells) cut) ++ picked cells (second_group (rects cells) cut))
  picked-groups cells cut =
      let f : ℕ → Cell D = λ p. get_or cells p no_cell in
      let order = sorting (rects cells) cut.axis cut.upper in
      let all = range_with_len 0 (length (rects cells)) in
      let mapped : IsPermutation (map f all) (map f order) = IsPermutation-map f all order (sort-permutes (along (rects cells) cut.axis cut.upper) all) in
      let range_is : map f all ≡ cells = ap (λ k. picked cells (range_with_len 0 k)) (length-map cells (λ q. q.rect)) ∙ picked-all cells in
      let parts : map f order ≡ picked cells (take cut.first order) ++ picked cells (drop cut.first order) =
      ap (map f) (sym (take-append-drop cut.first order)) ∙ map-append f (take cut.first order) (drop cut.first order) in
      subst (λ xs. IsPermutation cells xs) parts (subst (λ xs. IsPermutation xs (map f order)) range_is mapped)
