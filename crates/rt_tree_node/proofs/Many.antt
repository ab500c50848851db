-- Several pending cells at once: appended to a node, or in another order.
use Rattle.std.proofs.Common.{◌≡◌, ◌≢◌, ◌⊎◌, ℕ, zero, suc, ◌+◌, ◌≤◌, Bool, true, cond, ℤ, List, [], ◌∷◌, ◌++◌, length, get_or, map, Option, Some, count_by, is_some, append_assoc, arith, refl, ap, ◌∙◌, sym, subst, inl, inr}
use Rattle.std.specs.Ordering.{int_eq}
use Rattle.std.specs.List.{All}
use Rattle.std.specs.List.Sorted.{IsPermutation}
use Rattle.std.proofs.lemmas.List.{append-nil}
use Rattle.std.proofs.lemmas.List.Elements.{All-cons, All-head, All-tail, All-append, All-map, All-weaker}
use Rattle.std.proofs.lemmas.List.Sorted.{All-permutation, sum_by-IsPermutation}
use Rattle.std.proofs.lemmas.Bool.{cases_Bool}
use Rattle.std.proofs.lemmas.Bool.Decides.{Decides-int_eq}
use Rattle.rt_box.specs.Capacity.{least_fill}
use Rattle.rt_box.specs.Rect.{IsBox}
use Rattle.rt_box.specs.Hull.{hull}
use Rattle.slab.specs.Slab.{Slab, get, Updates, with_value}
use Rattle.slab.proofs.SlabLemmas.{Updates-with_value}
use Rattle.rt_tree_node.specs.declared.cell.Cell.{Cell}
use Rattle.rt_tree_node.specs.declared.cell.Pending.{Pending}
use Rattle.rt_tree_node.specs.Node.{NodeCells}
use Rattle.rt_tree_node.specs.Places.{key_of, rects, times_named, times_listed, cells_of, parent_of, level_of, leaf_cells_of, inner_cells_of, cells_at, parent_at, cells_above, leaf_part, inner_part, pending_nodes, pending_at}
use Rattle.rt_tree_node.specs.Sound.{Names, NamesChild, IsLinked, HasHomes}
use Rattle.rt_tree_node.specs.Open.{HasHull, IsFittedBut}
use Rattle.rt_tree_node.proofs.Places.{nodes-joined, rows-joined, names_key, has_id}
use Rattle.rt_tree_node.proofs.Links.{appended, same-at, same-above, Names-same, NamesChild-same, All-left, All-right}
use Rattle.rt_tree_node.proofs.Fitted.{fitted-appended}
use Rattle.rt_tree_node.proofs.Homes.{homes-appended, homes-pending, homes-same, same-id}

abbrev moved_to : (ℤ → Option ℕ) → ℤ → ℕ → ℤ → Option ℕ
moved_to h id leaf x = cond (int_eq x id) (Some leaf) (h x)

moved-other : (h : ℤ → Option ℕ) (id : ℤ) (leaf : ℕ) (x : ℤ) → x ≢ id → moved_to h id leaf x ≡ h x
moved-other h id leaf x differs = elim (cases_Bool (int_eq x id)) [
  | inl holds ↦ absurd (differs ((Decides-int_eq x id).0 holds))
  | inr fails ↦ ap (λ t. cond t (Some leaf) (h x)) fails
]

-- what holds of each image holds of each element
All-unmapped : {X Y : Type 0} (P : Y → Type 0) (f : X → Y) (xs : List X) → All P (map f xs) → All (λ x. P (f x)) xs
All-unmapped P f [] all = λ k d within. absurd (omega arith)
All-unmapped P f (x ∷ xs) all = All-cons (λ y. P (f y)) x xs (All-head P (f x) (map f xs) all) (All-unmapped P f xs (All-tail P (f x) (map f xs) all))

module _ {D : ℕ} where
  -- the slab with one cell more in a node
  with_more : Slab (NodeCells D) → ℕ → NodeCells D → Cell D → Slab (NodeCells D)
  with_more a k n c = with_value a k (record n { cells = n.cells ++ c ∷ [] })

  updates-first : (a : Slab (NodeCells D)) (k : ℕ) (n : NodeCells D) (c : Cell D) → get a k ≡ Some n →
      Updates a (with_more a k n c) k (Some (record n { cells = n.cells ++ c ∷ [] }))
  unfolding with_more
  updates-first a k n c has = Updates-with_value a k (record n { cells = n.cells ++ c ∷ [] }) (ap is_some has)

  updates-rest : (a b : Slab (NodeCells D)) (k : ℕ) (n : NodeCells D) (c : Cell D) (cs : List (Cell D)) → get a k ≡ Some n →
      Updates a b k (Some (record n { cells = n.cells ++ c ∷ cs })) →
      Updates (with_more a k n c) b k (Some (record n { cells = (n.cells ++ c ∷ []) ++ cs }))
  updates-rest a b k n c cs has u =
      let first = updates-first a k n c has in
      let whole : List (Cell D) → Option (NodeCells D) = λ cells. Some (record n { cells = cells }) in
      record {
        changed = u.changed ∙ ap whole (sym (append_assoc n.cells (c ∷ []) cs));
        others = λ x other. u.others x other ∙ sym (first.others x other);
      }

  same-node : (a b : Slab (NodeCells D)) (k : ℕ) (n : NodeCells D) → get a k ≡ Some n → Updates a b k (Some (record n { cells = n.cells ++ [] })) → (x : ℕ) → get b x ≡ get a x
  same-node a b k n has u x =
      let whole : List (Cell D) → Option (NodeCells D) = λ cells. Some (record n { cells = cells }) in
      same-at (λ s. s) a b k n (record n { cells = n.cells ++ [] }) has u (ap whole (append-nil n.cells)) x

  -- two slabs that have the same nodes, however they are laid out
  pub linked-same : (p q : Slab (NodeCells D)) (r l : ℕ) (ws : List (Pending D)) → ((x : ℕ) → get q x ≡ get p x) → IsLinked p r l ws → IsLinked q r l ws
  linked-same p q r l ws same linked =
      let lv = λ (x : ℕ). ap level_of (same x) in
      let pr = λ (x : ℕ). ap parent_of (same x) in
      record {
        root_level = lv r ∙ linked.root_level;
        root_parent = pr r ∙ linked.root_parent;
        root_waits_not = linked.root_waits_not;
        levels = λ x i e. linked.levels x i (sym (lv x) ∙ e);
        children = λ x i e. subst (All (NamesChild q i x)) (sym (ap cells_of (same x)))
            (All-weaker (NamesChild p i x) (NamesChild q i x) (λ c is. NamesChild-same p q i x c (lv (key_of c)) (pr (key_of c)) is) (cells_at p x)
            (linked.children x i (sym (lv x) ∙ e)));
        named = λ x i e other. ap (λ cells. times_named x cells + times_named x (pending_nodes ws)) (same-above p q (λ y. ap inner_cells_of (same y)) x (pr x))
            ∙ linked.named x i (sym (lv x) ∙ e) other;
        pending_levels = linked.pending_levels;
        pending_named = All-weaker (λ v. (i : ℕ) → v.level ≡ suc i → Names p i v.cell) (λ v. (i : ℕ) → v.level ≡ suc i → Names q i v.cell)
            (λ v is i e. Names-same p q i v.cell (lv (key_of v.cell)) (is i e)) ws linked.pending_named;
      }

  pub fitted-same : (E : ℕ → Type 0) (M : ℕ) (p q : Slab (NodeCells D)) (r : ℕ) (ws : List (Pending D)) → ((x : ℕ) → get q x ≡ get p x) →
      IsFittedBut E M p r ws → IsFittedBut E M q r ws
  fitted-same E M p q r ws same fitted =
      let lv = λ (x : ℕ). ap level_of (same x) in
      let cs = λ (x : ℕ). ap cells_of (same x) in
      let moved : (c : Cell D) → HasHull E p c → HasHull E q c = λ c is fine. is fine ∙ sym (ap (λ cells. hull (rects cells)) (cs (key_of c))) in
      record {
        cap = fitted.cap;
        some = λ x l e fine. subst (λ cells. 1 ≤ length cells) (sym (cs x)) (fitted.some x l (sym (lv x) ∙ e) fine);
        least = λ x l e other fine. subst (λ cells. least_fill M ≤ length cells) (sym (cs x)) (fitted.least x l (sym (lv x) ∙ e) other fine);
        most = λ x l e fine. subst (λ cells. length cells ≤ M) (sym (cs x)) (fitted.most x l (sym (lv x) ∙ e) fine);
        boxes = λ x. subst (All (λ c. IsBox D c.rect)) (sym (cs x)) (fitted.boxes x);
        hulls = λ x l e. subst (All (HasHull E q)) (sym (cs x)) (All-weaker (HasHull E p) (HasHull E q) moved (cells_at p x) (fitted.hulls x l (sym (lv x) ∙ e)));
        pending_boxes = fitted.pending_boxes;
        pending_hulls = All-weaker (λ w. (l : ℕ) → w.level ≡ suc l → HasHull E p w.cell) (λ w. (l : ℕ) → w.level ≡ suc l → HasHull E q w.cell)
            (λ w is l e. moved w.cell (is l e)) ws fitted.pending_hulls;
      }

  -- pending cells in another order
  All-reordered : (P : Pending D → Type 0) (xs : List (Pending D)) (l : ℕ) (cs ds : List (Cell D)) → IsPermutation cs ds →
      All P (xs ++ pending_at l cs) → All P (xs ++ pending_at l ds)
  All-reordered P xs l cs ds moved all =
      let at : Cell D → Pending D = λ c. record { level = l; cell = c } in
      All-append P xs (pending_at l ds) (All-left P xs (pending_at l cs) all)
      (All-map P at ds (All-permutation (λ c. P (at c)) cs ds moved (All-unmapped P at cs (All-right P xs (pending_at l cs) all))))

  count-inner_reordered : (test : Cell D → Bool) (l : ℕ) (cs ds : List (Cell D)) → IsPermutation cs ds → count_by test (inner_part l ds) ≡ count_by test (inner_part l cs)
  count-inner_reordered test zero cs ds moved = refl
  count-inner_reordered test (suc l) cs ds moved = sum_by-IsPermutation (λ c. cond (test c) 1 0) cs ds moved

  count-leaf_reordered : (test : Cell D → Bool) (l : ℕ) (cs ds : List (Cell D)) → IsPermutation cs ds → count_by test (leaf_part l ds) ≡ count_by test (leaf_part l cs)
  count-leaf_reordered test zero cs ds moved = sum_by-IsPermutation (λ c. cond (test c) 1 0) cs ds moved
  count-leaf_reordered test (suc l) cs ds moved = refl

  pub linked-reordered : (a : Slab (NodeCells D)) (root level : ℕ) (xs : List (Pending D)) (l : ℕ) (cs ds : List (Cell D)) → IsPermutation cs ds →
      IsLinked a root level (xs ++ pending_at l cs) → IsLinked a root level (xs ++ pending_at l ds)
  linked-reordered a root level xs l cs ds moved linked =
      let same = λ (x : ℕ). let p = nodes-joined (names_key x) xs l cs in let q = nodes-joined (names_key x) xs l ds in
      let r = count-inner_reordered (names_key x) l cs ds moved in
      let e : times_named x (pending_nodes (xs ++ pending_at l ds)) ≡ times_named x (pending_nodes (xs ++ pending_at l cs)) = omega arith in e in
      record {
        root_level = linked.root_level;
        root_parent = linked.root_parent;
        root_waits_not = same root ∙ linked.root_waits_not;
        levels = linked.levels;
        children = linked.children;
        named = λ x i e other. ap (λ t. times_named x (cells_above a x) + t) (same x) ∙ linked.named x i e other;
        pending_levels = All-reordered (λ w. w.level ≤ level) xs l cs ds moved linked.pending_levels;
        pending_named = All-reordered (λ w. (i : ℕ) → w.level ≡ suc i → Names a i w.cell) xs l cs ds moved linked.pending_named;
      }

  pub fitted-reordered : (E : ℕ → Type 0) (M : ℕ) (a : Slab (NodeCells D)) (root : ℕ) (xs : List (Pending D)) (l : ℕ) (cs ds : List (Cell D)) → IsPermutation cs ds →
      IsFittedBut E M a root (xs ++ pending_at l cs) → IsFittedBut E M a root (xs ++ pending_at l ds)
  fitted-reordered E M a root xs l cs ds moved fitted = record {
    cap = fitted.cap;
    some = fitted.some;
    least = fitted.least;
    most = fitted.most;
    boxes = fitted.boxes;
    hulls = fitted.hulls;
    pending_boxes = All-reordered (λ w. IsBox D w.cell.rect) xs l cs ds moved fitted.pending_boxes;
    pending_hulls = All-reordered (λ w. (i : ℕ) → w.level ≡ suc i → HasHull E a w.cell) xs l cs ds moved fitted.pending_hulls;
  }

  pub homes-reordered : (f : ℤ → Option ℕ) (a : Slab (NodeCells D)) (xs : List (Pending D)) (l : ℕ) (cs ds : List (Cell D)) → IsPermutation cs ds →
      HasHomes f a (xs ++ pending_at l cs) → HasHomes f a (xs ++ pending_at l ds)
  homes-reordered f a xs l cs ds moved homes = homes-pending f a (xs ++ pending_at l cs) (xs ++ pending_at l ds)
      (λ id. let p = rows-joined (has_id id) xs l cs in let q = rows-joined (has_id id) xs l ds in let r = count-leaf_reordered (has_id id) l cs ds moved in omega arith) homes

  pub linked-more : (a b : Slab (NodeCells D)) (root level : ℕ) (xs : List (Pending D)) (cs : List (Cell D)) (ys : List (Pending D)) (k : ℕ) (n : NodeCells D) →
      IsLinked a root level (xs ++ (pending_at n.level cs ++ ys)) → get a k ≡ Some n →
      ((l : ℕ) → n.level ≡ suc l → All (λ c. (key_of c ≢ k) × (parent_at a (key_of c) ≡ Some k)) cs) →
      Updates a b k (Some (record n { cells = n.cells ++ cs })) → IsLinked b root level (xs ++ ys)
  linked-more a b root level xs [] ys k n linked has child u = linked-same a b root level (xs ++ ys) (same-node a b k n has u) linked
  linked-more a b root level xs (c ∷ cs) ys k n linked has child u =
      let m = record n { cells = n.cells ++ c ∷ [] } in
      let first = updates-first a k n c has in
      let pr = same-at parent_of a (with_more a k n c) k n m has first refl in
      linked-more (with_more a k n c) b root level xs cs ys k m
      (appended a (with_more a k n c) root level xs record { level = n.level; cell = c } (pending_at n.level cs ++ ys) k n linked has refl
      (λ l e. (All-head (λ q. (key_of q ≢ k) × (parent_at a (key_of q) ≡ Some k)) c cs (child l e)).1) first)
      first.changed
      (λ l e j d within.
      let is = All-tail (λ q. (key_of q ≢ k) × (parent_at a (key_of q) ≡ Some k)) c cs (child l e) j d within in
      (is.0, pr (key_of (get_or cs j d)) ∙ is.1))
      (updates-rest a b k n c cs has u)

  pub fitted-more : (E : ℕ → Type 0) (M : ℕ) (a b : Slab (NodeCells D)) (root : ℕ) (xs : List (Pending D)) (cs : List (Cell D)) (ys : List (Pending D)) (k : ℕ) (n : NodeCells D) →
      ((x : ℕ) → E x ⊎ (E x → ⊥)) → IsFittedBut E M a root (xs ++ (pending_at n.level cs ++ ys)) → E k → get a k ≡ Some n →
      Updates a b k (Some (record n { cells = n.cells ++ cs })) → IsFittedBut E M b root (xs ++ ys)
  fitted-more E M a b root xs [] ys k n decide fitted odd has u = fitted-same E M a b root (xs ++ ys) (same-node a b k n has u) fitted
  fitted-more E M a b root xs (c ∷ cs) ys k n decide fitted odd has u =
      let m = record n { cells = n.cells ++ c ∷ [] } in
      let first = updates-first a k n c has in
      fitted-more E M (with_more a k n c) b root xs cs ys k m decide
      (fitted-appended E M a (with_more a k n c) root xs record { level = n.level; cell = c } (pending_at n.level cs ++ ys) k n decide fitted odd has refl first)
      odd first.changed (updates-rest a b k n c cs has u)

  -- rows, whose entries lead to the leaf now
  pub homes-more : (f g : ℤ → Option ℕ) (a b : Slab (NodeCells D)) (xs : List (Pending D)) (cs : List (Cell D)) (ys : List (Pending D)) (k : ℕ) (n : NodeCells D) →
      HasHomes f a (xs ++ (pending_at n.level cs ++ ys)) → get a k ≡ Some n → n.level ≡ 0 →
      All (λ c. g c.number ≡ Some k) cs → ((id : ℤ) → All (λ c. id ≢ c.number) cs → g id ≡ f id) →
      Updates a b k (Some (record n { cells = n.cells ++ cs })) → HasHomes g b (xs ++ ys)
  homes-more f g a b xs [] ys k n homes has leaf here others u =
      let old = homes-same f a b (xs ++ ys) (λ key id. ap (times_listed id) (ap leaf_cells_of (same-node a b k n has u key))) homes in
      let same : (id : ℤ) → g id ≡ f id = λ id. others id (λ j d within. absurd (omega arith)) in
      record {
        home = λ key id some. same id ∙ old.home key id some;
        there = λ key id is. old.there key id (sym (same id) ∙ is);
        pending = λ id some. ap is_some (same id) ∙ old.pending id some;
      }
  homes-more f g a b xs (c ∷ cs) ys k n homes has leaf here others u =
      let m = record n { cells = n.cells ++ c ∷ [] } in
      let first = updates-first a k n c has in
      let self : int_eq c.number c.number ≡ true = (Decides-int_eq c.number c.number).1 refl in
      homes-more (moved_to f c.number k) g (with_more a k n c) b xs cs ys k m
      (homes-appended f (moved_to f c.number k) a (with_more a k n c) xs record { level = n.level; cell = c } (pending_at n.level cs ++ ys) k n homes has leaf leaf
      (ap (λ t. cond t (Some k) (f c.number)) self) (λ id differs. moved-other f c.number k id differs) first)
      first.changed leaf (All-tail (λ q. g q.number ≡ Some k) c cs here)
      (λ id apart. elim (same-id id c.number) [
        | inl same ↦ ap g same ∙ All-head (λ q. g q.number ≡ Some k) c cs here ∙ sym (ap (λ t. cond t (Some k) (f id)) ((Decides-int_eq id c.number).1 same))
        | inr differs ↦ others id (All-cons (λ q. id ≢ q.number) c cs differs apart) ∙ sym (moved-other f c.number k id differs)
      ])
      (updates-rest a b k n c cs has u)
