-- A node whose cell in the parent got the least box around the node's cells.
use Rattle.std.proofs.Common.{◌≡◌, ◌≢◌, ℕ, suc, ◌<◌, ◌≤◌, Bool, ℤ, pos, List, [], length, get_or, set, cond, Option, Some, count_by, eq-eqb, ne_eqb, arith, refl, ap, sym, subst, ◌∙◌, inl, inr}
use Rattle.std.specs.List.{All}
use Rattle.std.specs.Prelude.{unsigned_abs}
use Rattle.std.proofs.lemmas.Option.{same_Some}
use Rattle.std.proofs.lemmas.Bool.{cases_eq}
use Rattle.std.proofs.lemmas.List.{length-set, get_or-set_other, get_or-set_same}
use Rattle.std.proofs.lemmas.List.Elements.{All-set}
use Rattle.std.proofs.lemmas.List.Sums.{sum_by-set}
use Rattle.slab.specs.Slab.{Slab, get}
use Rattle.rt_box.specs.Capacity.{least_fill}
use Rattle.rt_box.specs.Rect.{IsBox}
use Rattle.rt_box.specs.Hull.{hull}
use Rattle.rt_tree_node.specs.declared.cell.Cell.{Cell}
use Rattle.rt_tree_node.specs.declared.cell.Pending.{Pending}
use Rattle.rt_tree_node.specs.Node.{NodeCells}
use Rattle.rt_tree_node.specs.Changes.{Puts}
use Rattle.rt_tree_node.specs.Places.{key_of, times_named, times_listed, cells_of, rects, cells_at, leaf_cells_at, leaf_cells_of, level_at, parent_at, hull_at, count_rows}
use Rattle.rt_tree_node.specs.Sound.{IsLinked, IsFitted, HasHomes}
use Rattle.rt_tree_node.proofs.Places.{leaf-at_inner, names_key}
use Rattle.rt_tree_node.proofs.Links.{boxes-changed}
use Rattle.rt_tree_node.proofs.Homes.{homes-same}
use Rattle.rt_tree_remove.specs.Steps.{IsNamedAt}
use Rattle.rt_tree_remove.proofs.Changed.{RefitsAt, changed-levels, changed-parents, changed-others, changed-cells}
use Rattle.rt_tree_remove.proofs.Dissolved.{unnamed-all, leaf-same}
use Rattle.rt_tree_node.proofs.Sums.{sums-same}

module _ {D : ℕ} where
  -- a key that is named once is named by no other cell
  pub named-once : (key at : ℕ) (cs : List (Cell D)) → IsNamedAt cs key at → times_named key cs ≡ 1 → (j : ℕ) (x : Cell D) → j < length cs → j ≢ at →
      key_of (get_or cs j x) ≢ key
  named-once key at cs place once j x within other =
      let c : Cell D = record { number = pos (suc key); rect = [] } in
      let step = sum_by-set (λ y. cond (names_key key y) 1 0) cs at c c place.within in
      let one : ◌≡◌ {A = ℕ} (cond (names_key key (get_or cs at c)) 1 0) 1 = ap (λ b. cond b 1 0) (eq-eqb _ _ (place.names c)) in
      let none : ◌≡◌ {A = ℕ} (cond (names_key key c) 1 0) 0 = ap (λ b. cond b 1 0) (ne_eqb _ _ (λ (e : suc key ≡ key). omega arith)) in
      let gone : times_named key (set cs at c) ≡ 0 = omega arith in
      let same = get_or-set_other cs at j c x other in
      λ e. unnamed-all key (set cs at c) gone j x (let long = length-set cs at c in omega arith) (ap key_of same ∙ e)

module _ {D : ℕ} (a b : Slab (NodeCells D)) (root level : ℕ) (ws : List (Pending D)) (key parent at l : ℕ) (p : NodeCells D)
    (linked : IsLinked a root level ws) (here : level_at a key ≡ Some l) (up : parent_at a key ≡ Some parent) (has : get a parent ≡ Some p)
    (up_level : level_at a parent ≡ Some (suc l)) (once : times_named key (cells_at a parent) ≡ 1)
    (low : All (λ w. w.level ≤ l) ws) (r : RefitsAt a b key parent at) where
  puts : Puts a b parent (record p { cells = set p.cells at r.cell })
  puts = r.change p has

  pub refitted-levels : (k : ℕ) → level_at b k ≡ level_at a k
  refitted-levels = changed-levels a b parent p (set p.cells at r.cell) has puts

  pub refitted-parents : (k : ℕ) → parent_at b k ≡ parent_at a k
  refitted-parents = changed-parents a b parent p (set p.cells at r.cell) has puts

  pub refitted-others : (k : ℕ) → k ≢ parent → cells_at b k ≡ cells_at a k
  refitted-others = changed-others a b parent p (set p.cells at r.cell) has puts

  pub refitted-cells : cells_at b parent ≡ set (cells_at a parent) at r.cell
  refitted-cells = changed-cells a b parent p (set p.cells at r.cell) has puts ∙ ap (λ cs. set cs at r.cell) (sym (ap cells_of has))

  cell-key : key_of r.cell ≡ key
  cell-key = ap unsigned_abs (r.number r.cell) ∙ r.place.names r.cell

  not_parent : key ≢ parent
  not_parent e = let same = same_Some _ _ (sym here ∙ ap (level_at a) e ∙ up_level) in omega arith

  same-hull : (x : ℕ) → x ≢ parent → hull_at b x ≡ hull_at a x
  same-hull x other = ap (λ cs. hull (rects cs)) (refitted-others x other)

  pub refitted-long : (k : ℕ) → length (cells_at b k) ≡ length (cells_at a k)
  refitted-long k = elim (cases_eq k parent) [
    | inl e ↦ ap (λ y. length (cells_at b y)) e ∙ ap length refitted-cells ∙ length-set (cells_at a parent) at r.cell ∙ ap (λ y. length (cells_at a y)) (sym e)
    | inr other ↦ ap length (refitted-others k other)
  ]

  pub refitted-linked : IsLinked b root level ws
  refitted-linked =
      let cells : cells_at a parent ≡ p.cells = ap cells_of has in
      boxes-changed a b root level ws parent at p r.cell linked has
      (let w = r.place.within in let e = ap length cells in omega arith)
      (r.number r.cell ∙ ap (λ cs. (get_or cs at r.cell).number) cells) puts.updates

  pub refitted-fitted : (M : ℕ) → IsFitted M a root ws (Some key) → (key ≢ root → least_fill M ≤ length (cells_at a key)) → length (cells_at a key) ≤ M →
      IsFitted M b root ws (Some parent)
  refitted-fitted M fitted enough most = record {
    cap = fitted.cap;
    some = λ k i e.
        let f = refitted-long k in
        let old = fitted.some k i (sym (refitted-levels k) ∙ e) in omega arith;
    least = λ k i e away odd.
        let f = refitted-long k in
        elim (cases_eq k key) [
          | inl same ↦
              let g = ap (λ y. length (cells_at a y)) same in
              let old = enough (λ s. away (same ∙ s)) in omega arith
          | inr other ↦ let old = fitted.least k i (sym (refitted-levels k) ∙ e) away (λ s. other (sym (same_Some key k s))) in omega arith
        ];
    most = λ k i e odd.
        let f = refitted-long k in
        elim (cases_eq k key) [
          | inl same ↦ let g = ap (λ y. length (cells_at a y)) same in omega arith
          | inr other ↦ let old = fitted.most k i (sym (refitted-levels k) ∙ e) (λ s. other (sym (same_Some key k s))) in omega arith
        ];
    boxes = λ k. elim (cases_eq k parent) [
      | inl e ↦ subst (All (λ c. IsBox D c.rect)) (sym (ap (cells_at b) e ∙ refitted-cells))
          (All-set (λ c. IsBox D c.rect) (cells_at a parent) at r.cell r.is_box (fitted.boxes parent))
      | inr other ↦ subst (All (λ c. IsBox D c.rect)) (sym (refitted-others k other)) (fitted.boxes k)
    ];
    hulls = λ k i e. elim (cases_eq k parent) [
      | inl same ↦ subst (All (λ c. Some parent ≢ Some (key_of c) → c.rect ≡ hull_at b (key_of c))) (sym (ap (cells_at b) same ∙ refitted-cells))
          (λ j x within odd. by-place j x (let long = length-set (cells_at a parent) at r.cell in omega arith) odd)
      | inr other ↦ subst (All (λ c. Some parent ≢ Some (key_of c) → c.rect ≡ hull_at b (key_of c))) (sym (refitted-others k other)) (λ j x within odd.
          let c = get_or (cells_at a k) j x in
          let lev = sym (refitted-levels k) ∙ e in
          let free : key_of c ≢ key = λ s. other (same_Some _ _ (sym ((linked.children k i lev j x within).parent_is) ∙ ap (parent_at a) s ∙ up)) in
          fitted.hulls k i lev j x within (λ s. free (sym (same_Some key _ s))) ∙ sym (same-hull (key_of c) (λ s. odd (ap Some (sym s)))))
    ];
    pending_boxes = fitted.pending_boxes;
    pending_hulls = λ j x within i e.
        let v = get_or ws j x in
        let is = linked.pending_named j x within i e in
        let below = low j x within in
        fitted.pending_hulls j x within i e ∙ sym (same-hull (key_of v.cell) (λ s.
        let same = same_Some _ _ (sym is.level_is ∙ ap (level_at a) s ∙ up_level) in omega arith));
  }
    where
      by-place : (j : ℕ) (x : Cell D) → j < length (cells_at a parent) → Some parent ≢ Some (key_of (get_or (set (cells_at a parent) at r.cell) j x)) →
          (get_or (set (cells_at a parent) at r.cell) j x).rect ≡ hull_at b (key_of (get_or (set (cells_at a parent) at r.cell) j x))
      by-place j x within odd = elim (cases_eq j at) [
        | inl e ↦
            let new : get_or (set (cells_at a parent) at r.cell) j x ≡ r.cell =
            ap (λ y. get_or (set (cells_at a parent) at r.cell) y x) e ∙ get_or-set_same (cells_at a parent) at r.cell x r.place.within in
            ap (λ (c : Cell D). c.rect) new ∙ r.rect ∙ sym (same-hull key not_parent) ∙ ap (hull_at b) (sym (ap key_of new ∙ cell-key))
        | inr other ↦
            let old : get_or (set (cells_at a parent) at r.cell) j x ≡ get_or (cells_at a parent) j x = get_or-set_other (cells_at a parent) at j r.cell x other in
            let c = get_or (cells_at a parent) j x in
            let free = named-once key at (cells_at a parent) r.place once j x within other in
            ap (λ (c : Cell D). c.rect) old ∙ fitted.hulls parent l up_level j x within (λ s. free (sym (same_Some key _ s)))
            ∙ sym (same-hull (key_of c) (λ s. odd (ap Some (sym (ap key_of old ∙ s))))) ∙ ap (hull_at b) (sym (ap key_of old))
      ]

  pub refitted-leaves : (k : ℕ) → leaf_cells_at b k ≡ leaf_cells_at a k
  refitted-leaves k = elim (cases_eq k parent) [
    | inl e ↦
        ap (leaf_cells_at b) e ∙ leaf-at_inner b parent l (refitted-levels parent ∙ up_level) ∙ sym (ap (leaf_cells_at a) e ∙ leaf-at_inner a parent l up_level)
    | inr other ↦ leaf-same a b k (refitted-levels k) (refitted-others k other)
  ]

  pub refitted-homes : (f : ℤ → Option ℕ) → HasHomes f a ws → HasHomes f b ws
  refitted-homes f homes = homes-same f a b ws (λ k id. ap (times_listed id) (refitted-leaves k)) homes

  pub refitted-rows : (test : Cell D → Bool) → count_rows test b ws ≡ count_rows test a ws
  refitted-rows test =
      let F : Option (NodeCells D) → ℕ = λ place. count_by test (leaf_cells_of place) in
      let sums = sums-same F refl a.slots b.slots (λ k. ap (count_by test) (refitted-leaves k)) in
      omega arith
