-- The shape of nodes, after each kind of change.
use Rattle.std.proofs.Common.{◌≡◌, ◌≢◌, ◌⊎◌, ℕ, suc, ◌≤◌, List, [], ◌∷◌, ◌++◌, length, Option, Some, refl, ap, ◌∙◌, sym, subst, inl, inr}
use Rattle.std.specs.List.{All}
use Rattle.std.proofs.lemmas.Option.{same_Some}
use Rattle.std.proofs.lemmas.Bool.{cases_eq}
use Rattle.std.proofs.lemmas.List.Elements.{All-nil, All-append, All-map, All-push, All-weaker}
use Rattle.slab.specs.Slab.{Slab, get, Updates}
use Rattle.rt_box.specs.Capacity.{least_fill}
use Rattle.rt_box.specs.Rect.{IsBox}
use Rattle.rt_box.specs.Hull.{hull}
use Rattle.rt_tree_node.specs.declared.cell.Cell.{Cell}
use Rattle.rt_tree_node.specs.declared.cell.Pending.{Pending}
use Rattle.rt_tree_node.specs.Node.{NodeCells}
use Rattle.rt_tree_node.specs.Places.{key_of, cells_of, level_of, cells_at, level_at, rects, pending_at}
use Rattle.rt_tree_node.specs.Sound.{IsFitted}
use Rattle.rt_tree_node.specs.Open.{HasHull, IsFittedBut}
use Rattle.rt_tree_node.proofs.Links.{same-at, All-without, All-at}

module _ {D : ℕ} where
  -- more nodes may be out of shape
  pub fitted-weaker : (E F : ℕ → Type 0) → ((x : ℕ) → E x → F x) → (M : ℕ) (a : Slab (NodeCells D)) (root : ℕ) (ws : List (Pending D)) →
      IsFittedBut E M a root ws → IsFittedBut F M a root ws
  fitted-weaker E F more M a root ws fitted = record {
    cap = fitted.cap;
    some = λ x l e fine. fitted.some x l e (λ h. fine (more x h));
    least = λ x l e other fine. fitted.least x l e other (λ h. fine (more x h));
    most = λ x l e fine. fitted.most x l e (λ h. fine (more x h));
    boxes = fitted.boxes;
    hulls = λ x l e k d within fine. fitted.hulls x l e k d within (λ h. fine (more _ h));
    pending_boxes = fitted.pending_boxes;
    pending_hulls = λ k d within l e fine. fitted.pending_hulls k d within l e (λ h. fine (more _ h));
  }

  pub opened : (M : ℕ) (a : Slab (NodeCells D)) (root : ℕ) (ws : List (Pending D)) (odd : Option ℕ) →
      IsFitted M a root ws odd → IsFittedBut (λ x. odd ≡ Some x) M a root ws
  opened M a root ws odd fitted = record {
    cap = fitted.cap;
    some = λ x l e fine. fitted.some x l e;
    least = fitted.least;
    most = fitted.most;
    boxes = fitted.boxes;
    hulls = fitted.hulls;
    pending_boxes = fitted.pending_boxes;
    pending_hulls = λ k d within l e fine. fitted.pending_hulls k d within l e;
  }

  -- what may change freely: the cells of the odd nodes, and what waits
  pub fitted-moved : (E : ℕ → Type 0) (M : ℕ) (a b : Slab (NodeCells D)) (root top : ℕ) (ws vs : List (Pending D)) → IsFittedBut E M a root ws →
      ((x l : ℕ) → (E x → ⊥) → level_at b x ≡ Some l → level_at a x ≡ Some l) →
      ((x : ℕ) → (E x → ⊥) → cells_at b x ≡ cells_at a x) →
      ((x : ℕ) → (E x → ⊥) → x ≢ top → x ≢ root) →
      ((x : ℕ) → E x ⊎ (E x → ⊥)) →
      ((x : ℕ) → E x → All (λ c. IsBox D c.rect) (cells_at b x)) →
      ((x l : ℕ) → E x → level_at b x ≡ Some (suc l) → All (HasHull E a) (cells_at b x)) →
      All (λ w. IsBox D w.cell.rect) vs →
      All (λ w. (l : ℕ) → w.level ≡ suc l → HasHull E a w.cell) vs → IsFittedBut E M b top vs
  fitted-moved E M a b root top ws vs fitted lv cs tops decide new_boxes new_hulls boxes_vs hulls_vs =
      let moved : (c : Cell D) → HasHull E a c → HasHull E b c = λ c is fine. is fine ∙ sym (ap (λ cells. hull (rects cells)) (cs (key_of c) fine)) in
      record {
        cap = fitted.cap;
        some = λ x l e fine. subst (λ cells. 1 ≤ length cells) (sym (cs x fine)) (fitted.some x l (lv x (suc l) fine e) fine);
        least = λ x l e other fine. subst (λ cells. least_fill M ≤ length cells) (sym (cs x fine)) (fitted.least x l (lv x l fine e) (tops x fine other) fine);
        most = λ x l e fine. subst (λ cells. length cells ≤ M) (sym (cs x fine)) (fitted.most x l (lv x l fine e) fine);
        boxes = λ x. elim (decide x) [
          | inl odd ↦ new_boxes x odd
          | inr fine ↦ subst (All (λ c. IsBox D c.rect)) (sym (cs x fine)) (fitted.boxes x)
        ];
        hulls = λ x l e. elim (decide x) [
          | inl odd ↦ All-weaker (HasHull E a) (HasHull E b) moved (cells_at b x) (new_hulls x l odd e)
          | inr fine ↦ subst (All (HasHull E b)) (sym (cs x fine)) (All-weaker (HasHull E a) (HasHull E b) moved (cells_at a x) (fitted.hulls x l (lv x (suc l) fine e)))
        ];
        pending_boxes = boxes_vs;
        pending_hulls = All-weaker (λ w. (l : ℕ) → w.level ≡ suc l → HasHull E a w.cell) (λ w. (l : ℕ) → w.level ≡ suc l → HasHull E b w.cell)
            (λ w is l e. moved w.cell (is l e)) vs hulls_vs;
      }

  -- a pending cell is appended to an odd node
  pub fitted-appended : (E : ℕ → Type 0) (M : ℕ) (a b : Slab (NodeCells D)) (root : ℕ) (xs : List (Pending D)) (w : Pending D) (ys : List (Pending D)) (k : ℕ) (n : NodeCells D) →
      ((x : ℕ) → E x ⊎ (E x → ⊥)) → IsFittedBut E M a root (xs ++ w ∷ ys) → E k → get a k ≡ Some n → w.level ≡ n.level →
      Updates a b k (Some (record n { cells = n.cells ++ w.cell ∷ [] })) → IsFittedBut E M b root (xs ++ ys)
  fitted-appended E M a b root xs w ys k n decide fitted odd has at_level u =
      let m = record n { cells = n.cells ++ w.cell ∷ [] } in
      let lv = same-at level_of a b k n m has u refl in
      let cells_k : cells_at a k ≡ n.cells = ap cells_of has in
      let apart = λ (x : ℕ) (fine : E x → ⊥) (e : x ≡ k). fine (subst E (sym e) odd) in
      fitted-moved E M a b root root (xs ++ w ∷ ys) (xs ++ ys) fitted (λ x l fine e. sym (lv x) ∙ e) (λ x fine. ap cells_of (u.others x (apart x fine)))
      (λ x fine other. other) decide
      (λ x here. elim (cases_eq x k) [
        | inl at ↦ subst (λ y. All (λ c. IsBox D c.rect) (cells_at b y)) (sym at) (subst (All (λ c. IsBox D c.rect)) (sym (ap cells_of u.changed))
            (All-push (λ c. IsBox D c.rect) n.cells w.cell (subst (All (λ c. IsBox D c.rect)) cells_k (fitted.boxes k)) (All-at (λ v. IsBox D v.cell.rect) xs w ys fitted.pending_boxes)))
        | inr other ↦ subst (All (λ c. IsBox D c.rect)) (sym (ap cells_of (u.others x other))) (fitted.boxes x)
      ])
      (λ x l here e. elim (cases_eq x k) [
        | inl at ↦
            let level_n : n.level ≡ suc l = same_Some n.level (suc l) (sym (ap level_of has) ∙ ap (level_at a) (sym at) ∙ sym (lv x) ∙ e) in
            subst (λ y. All (HasHull E a) (cells_at b y)) (sym at) (subst (All (HasHull E a)) (sym (ap cells_of u.changed))
            (All-push (HasHull E a) n.cells w.cell (subst (All (HasHull E a)) cells_k (fitted.hulls k l (ap level_of has ∙ ap Some level_n)))
            (All-at (λ v. (i : ℕ) → v.level ≡ suc i → HasHull E a v.cell) xs w ys fitted.pending_hulls l (at_level ∙ level_n))))
        | inr other ↦ subst (All (HasHull E a)) (sym (ap cells_of (u.others x other))) (fitted.hulls x l (sym (lv x) ∙ e))
      ])
      (All-without (λ v. IsBox D v.cell.rect) xs w ys fitted.pending_boxes)
      (All-without (λ v. (i : ℕ) → v.level ≡ suc i → HasHull E a v.cell) xs w ys fitted.pending_hulls)

  -- the cells of an odd node are taken out, and wait
  pub fitted-cleared : (E : ℕ → Type 0) (M : ℕ) (a b : Slab (NodeCells D)) (root : ℕ) (ws : List (Pending D)) (k : ℕ) (n : NodeCells D) →
      ((x : ℕ) → E x ⊎ (E x → ⊥)) → IsFittedBut E M a root ws → E k → get a k ≡ Some n →
      Updates a b k (Some (record n { cells = [] })) → IsFittedBut E M b root (ws ++ pending_at n.level n.cells)
  fitted-cleared E M a b root ws k n decide fitted odd has u =
      let m = record n { cells = [] } in
      let lv = same-at level_of a b k n m has u refl in
      let cells_k : cells_at a k ≡ n.cells = ap cells_of has in
      let apart = λ (x : ℕ) (fine : E x → ⊥) (e : x ≡ k). fine (subst E (sym e) odd) in
      fitted-moved E M a b root root ws (ws ++ pending_at n.level n.cells) fitted (λ x l fine e. sym (lv x) ∙ e) (λ x fine. ap cells_of (u.others x (apart x fine)))
      (λ x fine other. other) decide
      (λ x here. elim (cases_eq x k) [
        | inl at ↦ subst (λ y. All (λ c. IsBox D c.rect) (cells_at b y)) (sym at) (subst (All (λ c. IsBox D c.rect)) (sym (ap cells_of u.changed)) (All-nil (λ c. IsBox D c.rect)))
        | inr other ↦ subst (All (λ c. IsBox D c.rect)) (sym (ap cells_of (u.others x other))) (fitted.boxes x)
      ])
      (λ x l here e. elim (cases_eq x k) [
        | inl at ↦ subst (λ y. All (HasHull E a) (cells_at b y)) (sym at) (subst (All (HasHull E a)) (sym (ap cells_of u.changed)) (All-nil (HasHull E a)))
        | inr other ↦ subst (All (HasHull E a)) (sym (ap cells_of (u.others x other))) (fitted.hulls x l (sym (lv x) ∙ e))
      ])
      (All-append (λ v. IsBox D v.cell.rect) ws (pending_at n.level n.cells) fitted.pending_boxes
      (All-map (λ v. IsBox D v.cell.rect) (λ c. record { level = n.level; cell = c }) n.cells (subst (All (λ c. IsBox D c.rect)) cells_k (fitted.boxes k))))
      (All-append (λ v. (i : ℕ) → v.level ≡ suc i → HasHull E a v.cell) ws (pending_at n.level n.cells) fitted.pending_hulls
      (All-map (λ v. (i : ℕ) → v.level ≡ suc i → HasHull E a v.cell) (λ c. record { level = n.level; cell = c }) n.cells
      (λ j d within i e. subst (All (HasHull E a)) cells_k (fitted.hulls k i (ap level_of has ∙ ap Some e)) j d within)))

  -- a node changes its parent alone
  pub fitted-reparented : (E : ℕ → Type 0) (M : ℕ) (a b : Slab (NodeCells D)) (root : ℕ) (ws : List (Pending D)) (k : ℕ) (n : NodeCells D) (up : Option ℕ) →
      IsFittedBut E M a root ws → get a k ≡ Some n → Updates a b k (Some (record n { parent = up })) → IsFittedBut E M b root ws
  fitted-reparented E M a b root ws k n up fitted has u =
      let m = record n { parent = up } in
      let lv = same-at level_of a b k n m has u refl in
      let cs = same-at cells_of a b k n m has u refl in
      let moved : (c : Cell D) → HasHull E a c → HasHull E b c = λ c is fine. is fine ∙ sym (ap (λ cells. hull (rects cells)) (cs (key_of c))) in
      record {
        cap = fitted.cap;
        some = λ x l e fine. subst (λ cells. 1 ≤ length cells) (sym (cs x)) (fitted.some x l (sym (lv x) ∙ e) fine);
        least = λ x l e other fine. subst (λ cells. least_fill M ≤ length cells) (sym (cs x)) (fitted.least x l (sym (lv x) ∙ e) other fine);
        most = λ x l e fine. subst (λ cells. length cells ≤ M) (sym (cs x)) (fitted.most x l (sym (lv x) ∙ e) fine);
        boxes = λ x. subst (All (λ c. IsBox D c.rect)) (sym (cs x)) (fitted.boxes x);
        hulls = λ x l e. subst (All (HasHull E b)) (sym (cs x)) (All-weaker (HasHull E a) (HasHull E b) moved (cells_at a x) (fitted.hulls x l (sym (lv x) ∙ e)));
        pending_boxes = fitted.pending_boxes;
        pending_hulls = All-weaker (λ w. (l : ℕ) → w.level ≡ suc l → HasHull E a w.cell) (λ w. (l : ℕ) → w.level ≡ suc l → HasHull E b w.cell)
            (λ w is l e. moved w.cell (is l e)) ws fitted.pending_hulls;
      }
