-- A node that left the slab, whose cell left its parent, and whose cells wait.
use Rattle.std.proofs.Common.{◌≡◌, ◌≢◌, ℕ, zero, suc, ◌+◌, ◌<◌, ◌≤◌, Bool, ℤ, List, [], ◌∷◌, ◌++◌, length, get_or, take, drop, cond, Option, Some, None, is_some, count_by, eq-eqb, ne_eqb, arith, refl, ap, sym, subst, ◌∙◌, inl, inr}
use Rattle.std.specs.List.{All, remove}
use Rattle.std.specs.Option.{option_map_or}
use Rattle.std.proofs.lemmas.Option.{same_Some, none-some}
use Rattle.std.proofs.lemmas.Bool.{cases_eq}
use Rattle.std.proofs.lemmas.List.Elements.{All-nil, All-head, All-tail, All-append, All-map, All-take, All-drop}
use Rattle.std.proofs.lemmas.List.Sums.{sum_by-remove}
use Rattle.slab.specs.Slab.{Slab, get}
use Rattle.rt_tree_node.specs.declared.cell.Cell.{Cell}
use Rattle.rt_tree_node.specs.declared.cell.Pending.{Pending}
use Rattle.rt_tree_node.specs.Node.{NodeCells}
use Rattle.rt_tree_node.specs.Places.{key_of, times_named, cells_of, inner_part, leaf_part, inner_cells_of, leaf_cells_of, level_of, cells_at, inner_cells_at, leaf_cells_at, level_at, parent_at, cells_above, pending_nodes, pending_rows, times_listed, hull_at, rects, count_rows, pending_at}
use Rattle.rt_tree_node.specs.Sound.{Names, NamesChild, IsLinked, IsFitted, HasHomes}
use Rattle.rt_box.specs.Rect.{IsBox}
use Rattle.rt_box.specs.Hull.{hull}
use Rattle.std.proofs.lemmas.List.Edits.{length-remove}
use Rattle.rt_tree_node.proofs.Sums.{sums-but}
use Rattle.rt_tree_node.proofs.Counts.{count-some}
use Rattle.rt_tree_node.proofs.Places.{inner-at_inner, leaf-at_inner, has_id, inner-all, nodes-joined, nodes-middle, rows-joined, names_key, named-find, named-other}
use Rattle.rt_tree_node.proofs.Links.{above-some, above-none, Names-same, NamesChild-same, unnamed-elsewhere}
use Rattle.rt_tree_remove.specs.Steps.{IsNamedAt, Dissolves}

module _ {X : Type 0} (P : X → Type 0) where
  pub All-remove : (xs : List X) (at : ℕ) → All P xs → All P (remove xs at)
  All-remove xs at all = All-append P (take at xs) (drop (suc at) xs) (All-take P at xs all) (All-drop P (suc at) xs all)

module _ {D : ℕ} where
  abbrev inner_or : Option ℕ → List (Cell D) → List (Cell D)
  inner_or o cells = option_map_or (λ l. inner_part l cells) o []

  abbrev leaf_or : Option ℕ → List (Cell D) → List (Cell D)
  leaf_or o cells = option_map_or (λ l. leaf_part l cells) o []

  inner-by : (s : Option (NodeCells D)) → inner_cells_of s ≡ inner_or (level_of s) (cells_of s)
  inner-by None = refl
  inner-by (Some n) = refl

  leaf-by : (s : Option (NodeCells D)) → leaf_cells_of s ≡ leaf_or (level_of s) (cells_of s)
  leaf-by None = refl
  leaf-by (Some n) = refl

  -- of the same level and with the same cells
  pub inner-same : (a b : Slab (NodeCells D)) (x : ℕ) → level_at b x ≡ level_at a x → cells_at b x ≡ cells_at a x → inner_cells_at b x ≡ inner_cells_at a x
  inner-same a b x e f = inner-by (get b x) ∙ ap (λ o. inner_or o (cells_at b x)) e ∙ ap (inner_or (level_at a x)) f ∙ sym (inner-by (get a x))

  pub leaf-same : (a b : Slab (NodeCells D)) (x : ℕ) → level_at b x ≡ level_at a x → cells_at b x ≡ cells_at a x → leaf_cells_at b x ≡ leaf_cells_at a x
  leaf-same a b x e f = leaf-by (get b x) ∙ ap (λ o. leaf_or o (cells_at b x)) e ∙ ap (leaf_or (level_at a x)) f ∙ sym (leaf-by (get a x))

  -- cells that don't name the key
  pub unnamed-all : (key : ℕ) (cs : List (Cell D)) → times_named key cs ≡ 0 → All (λ c. key_of c ≢ key) cs
  unnamed-all key cs none k d within same =
      let counted : 0 < times_named key cs = count-some (names_key key) cs k d within (eq-eqb _ _ same) in omega arith

  -- one that names the key is taken out
  pub named-removed : (key at : ℕ) (cs : List (Cell D)) → IsNamedAt cs key at → times_named key (remove cs at) + 1 ≡ times_named key cs
  named-removed key at [] place = let w = place.within in absurd (omega arith)
  named-removed key at (c ∷ cs) place =
      let step = sum_by-remove (λ x. cond (names_key key x) 1 0) (c ∷ cs) at c place.within in
      let one : ◌≡◌ {A = ℕ} (cond (names_key key (get_or (c ∷ cs) at c)) 1 0) 1 = ap (λ b. cond b 1 0) (eq-eqb _ _ (place.names c)) in
      omega arith

  pub other-removed : (key other at : ℕ) (cs : List (Cell D)) → IsNamedAt cs key at → key ≢ other → times_named other (remove cs at) ≡ times_named other cs
  other-removed key other at [] place differs = let w = place.within in absurd (omega arith)
  other-removed key other at (c ∷ cs) place differs =
      let step = sum_by-remove (λ x. cond (names_key other x) 1 0) (c ∷ cs) at c place.within in
      let none : ◌≡◌ {A = ℕ} (cond (names_key other (get_or (c ∷ cs) at c)) 1 0) 0 = ap (λ b. cond b 1 0) (ne_eqb _ _ (λ same. differs (sym (place.names c) ∙ same))) in
      omega arith

  -- cells that wait for nodes no higher don't name the node
  pub unnamed-below : (a : Slab (NodeCells D)) (key l : ℕ) (ws : List (Pending D)) → level_at a key ≡ Some l →
      All (λ w. w.level ≤ l) ws → All (λ w. (i : ℕ) → w.level ≡ suc i → Names a i w.cell) ws → times_named key (pending_nodes ws) ≡ 0
  unnamed-below a key l [] here low named = refl
  unnamed-below a key l (w ∷ ws) here low named =
      let N : Pending D → Type 0 = λ v. (i : ℕ) → v.level ≡ suc i → Names a i v.cell in
      let rest = unnamed-below a key l ws here (All-tail (λ v. v.level ≤ l) w ws low) (All-tail N w ws named) in
      let first = by w.level refl (All-head (λ v. v.level ≤ l) w ws low) (All-head N w ws named) in
      let step = nodes-middle (names_key key) [] w ws in
      omega arith
    where
      by : (i : ℕ) → w.level ≡ i → w.level ≤ l → ((i : ℕ) → w.level ≡ suc i → Names a i w.cell) → times_named key (inner_part i (w.cell ∷ [])) ≡ 0
      by zero e at_most is = refl
      by (suc i) e at_most is = named-other key w.cell (λ same.
          let level = same_Some i l (sym ((is i e).level_is) ∙ ap (level_at a) same ∙ here) in omega arith)

  module _ (a : Slab (NodeCells D)) (root level : ℕ) (ws : List (Pending D)) (linked : IsLinked a root level ws) where
    -- a node that isn't the root and doesn't wait has a parent on the next level, which names it once
    pub parent-named : (key l : ℕ) → level_at a key ≡ Some l → key ≢ root → times_named key (pending_nodes ws) ≡ 0 →
        (p : ℕ) × (parent_at a key ≡ Some p) × (level_at a p ≡ Some (suc l)) × (times_named key (cells_at a p) ≡ 1)
    parent-named key l here not_root waits_not = by (parent_at a key) refl
      where
        by : (o : Option ℕ) → parent_at a key ≡ o → (p : ℕ) × (parent_at a key ≡ Some p) × (level_at a p ≡ Some (suc l)) × (times_named key (cells_at a p) ≡ 1)
        by None e =
            let one = linked.named key l here not_root in
            let none = ap (times_named key) (above-none a key e) in absurd (omega arith)
        by (Some p) e =
            let one = linked.named key l here not_root in
            let same = ap (times_named key) (above-some a key p e) in
            let counted : times_named key (inner_cells_at a p) ≡ 1 = omega arith in
            let P : Cell D → Type 0 = λ c. (i : ℕ) × (level_at a p ≡ Some (suc i)) × (level_at a (key_of c) ≡ Some i) in
            let all : All P (inner_cells_at a p) = inner-all P a p (λ i up. λ k d within. (i, up, (linked.children p i up k d within).names.level_is)) in
            let found = named-find key P (inner_cells_at a p) all (omega arith) in
            let i_is : found.2.0 ≡ l = same_Some _ _ (sym found.2.2 ∙ ap (level_at a) found.1 ∙ here) in
            let up : level_at a p ≡ Some (suc l) = found.2.1 ∙ ap (λ i. Some (suc i)) i_is in
            (p, e, up, sym (ap (times_named key) (inner-at_inner a p l up)) ∙ counted)

module _ {D : ℕ} (a b : Slab (NodeCells D)) (root level : ℕ) (ws : List (Pending D)) (key parent at : ℕ) (n : NodeCells D)
    (linked : IsLinked a root level ws) (has : get a key ≡ Some n) (up : parent_at a key ≡ Some parent)
    (up_level : level_at a parent ≡ Some (suc n.level)) (once : times_named key (cells_at a parent) ≡ 1)
    (low : All (λ w. w.level ≤ n.level) ws) (d : Dissolves a b key parent at) where
  level_key : level_at a key ≡ Some n.level
  level_key = ap level_of has

  not_root : key ≢ root
  not_root e = none-some parent (sym linked.root_parent ∙ ap (parent_at a) (sym e) ∙ up)

  not_parent : key ≢ parent
  not_parent e = let same = same_Some _ _ (sym level_key ∙ ap (level_at a) e ∙ up_level) in omega arith

  waits_not : times_named key (pending_nodes ws) ≡ 0
  waits_not = unnamed-below a key n.level ws level_key low linked.pending_named

  -- a node that is there is not the one that left
  pub there-other : (k l : ℕ) → level_at b k ≡ Some l → k ≢ key
  there-other k l e same = none-some l (sym (ap level_of d.gone) ∙ ap (level_at b) (sym same) ∙ e)

  pub there-level : (k l : ℕ) → level_at b k ≡ Some l → level_at a k ≡ Some l
  there-level k l e = sym (d.levels k (there-other k l e)) ∙ e

  -- the cells of a node that stays don't name the one that left
  pub free-cells : (k l : ℕ) → level_at b k ≡ Some (suc l) → All (λ c. key_of c ≢ key) (cells_at b k)
  free-cells k l e = elim (cases_eq k parent) [
    | inl here ↦
        let fewer = named-removed key at (cells_at a parent) d.place in
        let gone : times_named key (remove (cells_at a parent) at) ≡ 0 = omega arith in
        subst (All (λ c. key_of c ≢ key)) (sym (ap (cells_at b) here ∙ d.shorter)) (unnamed-all key (remove (cells_at a parent) at) gone)
    | inr other ↦ subst (All (λ c. key_of c ≢ key)) (sym (d.cells k (there-other k (suc l) e) other)) (λ j x within same.
        other (same_Some _ _ (sym ((linked.children k l (there-level k (suc l) e) j x within).parent_is) ∙ ap (parent_at a) same ∙ up)))
  ]

  -- a fact of each cell of a node, of those that it has left
  pub left-cells : (P : Cell D → Type 0) (k l : ℕ) → level_at b k ≡ Some l → All P (cells_at a k) → All P (cells_at b k)
  left-cells P k l e all = elim (cases_eq k parent) [
    | inl here ↦ subst (All P) (sym (ap (cells_at b) here ∙ d.shorter)) (All-remove P (cells_at a parent) at (subst (λ y. All P (cells_at a y)) here all))
    | inr other ↦ subst (All P) (sym (d.cells k (there-other k l e) other)) all
  ]

  -- the cells that name another node are as many as before, or wait
  inner-counts : (x y : ℕ) → x ≢ key → y ≢ key → times_named x (inner_cells_at b y) ≡ times_named x (inner_cells_at a y)
  inner-counts x y differs stays = elim (cases_eq y parent) [
    | inl here ↦
        let e : inner_cells_at b y ≡ remove (cells_at a parent) at =
        ap (inner_cells_at b) here ∙ inner-at_inner b parent n.level (d.levels parent (λ s. not_parent (sym s)) ∙ up_level) ∙ d.shorter in
        let f : inner_cells_at a y ≡ cells_at a parent = ap (inner_cells_at a) here ∙ inner-at_inner a parent n.level up_level in
        ap (times_named x) e ∙ other-removed key x at (cells_at a parent) d.place (λ s. differs (sym s)) ∙ sym (ap (times_named x) f)
    | inr other ↦ ap (times_named x) (inner-same a b y (d.levels y stays) (d.cells y stays other))
  ]

  above-counts : (x : ℕ) → x ≢ key → (o : Option ℕ) → parent_at a x ≡ o →
      times_named x (cells_above b x) + times_named x (inner_cells_at a key) ≡ times_named x (cells_above a x)
  above-counts x differs None e =
      let p = ap (times_named x) (above-none b x (d.parents x differs ∙ e)) in
      let q = ap (times_named x) (above-none a x e) in
      let none = unnamed-elsewhere a root level ws linked key x (λ f. none-some key (sym e ∙ f)) in omega arith
  above-counts x differs (Some y) e =
      let p = ap (times_named x) (above-some b x y (d.parents x differs ∙ e)) in
      let q = ap (times_named x) (above-some a x y e) in
      elim (cases_eq y key) [
        | inl here ↦
            let r = ap (λ z. times_named x (inner_cells_at b z)) here in
            let s = ap (λ z. times_named x (inner_cells_at a z)) here in
            let none : times_named x (inner_cells_at b key) ≡ 0 = ap (times_named x) (ap inner_cells_of d.gone) in omega arith
        | inr other ↦
            let same = inner-counts x y differs other in
            let none = unnamed-elsewhere a root level ws linked key x (λ f. other (same_Some _ _ (sym e ∙ f))) in omega arith
      ]

  waits : (x : ℕ) → times_named x (pending_nodes (ws ++ pending_at n.level n.cells)) ≡ times_named x (pending_nodes ws) + times_named x (inner_cells_at a key)
  waits x =
      let e = ap (times_named x) (ap inner_cells_of has) in
      let step = nodes-joined (names_key x) ws n.level n.cells in omega arith

  own-children : (l : ℕ) → n.level ≡ suc l → All (NamesChild a l key) n.cells
  own-children l e = subst (All (NamesChild a l key)) (ap cells_of has) (linked.children key l (level_key ∙ ap Some e))

  pub dissolved-linked : IsLinked b root level (ws ++ pending_at n.level n.cells)
  dissolved-linked = record {
    root_level = d.levels root (λ e. not_root (sym e)) ∙ linked.root_level;
    root_parent = d.parents root (λ e. not_root (sym e)) ∙ linked.root_parent;
    root_waits_not =
        let step = waits root in
        let none = unnamed-elsewhere a root level ws linked key root (λ e. none-some key (sym linked.root_parent ∙ e)) in
        let old = linked.root_waits_not in omega arith;
    levels = λ k l e. linked.levels k l (there-level k l e);
    children = λ k l e.
        let all = left-cells (NamesChild a l k) k (suc l) e (linked.children k l (there-level k (suc l) e)) in
        let free = free-cells k l e in
        λ j x within.
        let c = get_or (cells_at b k) j x in
        NamesChild-same a b l k c (d.levels (key_of c) (free j x within)) (d.parents (key_of c) (free j x within)) (all j x within);
    named = λ k l e other.
        let old = linked.named k l (there-level k l e) other in
        let above = above-counts k (there-other k l e) (parent_at a k) refl in
        let step = waits k in omega arith;
    pending_levels = All-append (λ v. v.level ≤ level) ws (pending_at n.level n.cells) linked.pending_levels
        (All-map (λ v. v.level ≤ level) (λ c. record { level = n.level; cell = c }) n.cells (λ j x within. linked.levels key n.level level_key));
    pending_named =
        let N : Slab (NodeCells D) → Pending D → Type 0 = λ s v. (i : ℕ) → v.level ≡ suc i → Names s i v.cell in
        All-append (N b) ws (pending_at n.level n.cells)
        (λ j x within i e.
        let v = get_or ws j x in
        let is = linked.pending_named j x within i e in
        let below = low j x within in
        let free : key_of v.cell ≢ key = λ same. let l = same_Some _ _ (sym is.level_is ∙ ap (level_at a) same ∙ level_key) in omega arith in
        Names-same a b i v.cell (d.levels (key_of v.cell) free) is)
        (All-map (N b) (λ c. record { level = n.level; cell = c }) n.cells (λ j x within i e.
        let c = get_or n.cells j x in
        let is = (own-children i e j x within).names in
        let free : key_of c ≢ key = λ same. let l = same_Some _ _ (sym is.level_is ∙ ap (level_at a) same ∙ level_key) in omega arith in
        Names-same a b i c (d.levels (key_of c) free) is));
  }

  same-hull : (x : ℕ) → x ≢ key → x ≢ parent → hull_at b x ≡ hull_at a x
  same-hull x p q = ap (λ cs. hull (rects cs)) (d.cells x p q)

  below-parent : (c : Cell D) (i : ℕ) → i < n.level → level_at a (key_of c) ≡ Some i → key_of c ≢ parent
  below-parent c i lower e same = let l = same_Some _ _ (sym e ∙ ap (level_at a) same ∙ up_level) in omega arith

  below-key : (c : Cell D) (i : ℕ) → i < n.level → level_at a (key_of c) ≡ Some i → key_of c ≢ key
  below-key c i lower e same = let l = same_Some _ _ (sym e ∙ ap (level_at a) same ∙ level_key) in omega arith

  two-above : (M : ℕ) → IsFitted M a root ws (Some key) → 2 ≤ length (cells_at a root) → 2 ≤ length (cells_at a parent)
  two-above M fitted branched = elim (cases_eq parent root) [
    | inl here ↦ let e = ap (λ y. length (cells_at a y)) here in omega arith
    | inr other ↦
        let enough = fitted.least parent (suc n.level) up_level other (λ s. not_parent (same_Some key parent s)) in
        let cap = fitted.cap in omega arith
  ]

  pub dissolved-fitted : (M : ℕ) → IsFitted M a root ws (Some key) → 2 ≤ length (cells_at a root) →
      IsFitted M b root (ws ++ pending_at n.level n.cells) (Some parent)
  dissolved-fitted M fitted branched = record {
    cap = fitted.cap;
    some = λ k l e. elim (cases_eq k parent) [
      | inl here ↦
          let f = ap (λ y. length (cells_at b y)) here in
          let g = ap length d.shorter in
          let h = length-remove (cells_at a parent) at d.place.within in
          let two = two-above M fitted branched in omega arith
      | inr other ↦
          let f = ap length (d.cells k (there-other k (suc l) e) other) in
          let old = fitted.some k l (there-level k (suc l) e) in omega arith
    ];
    least = λ k l e away odd.
        let f = ap length (d.cells k (there-other k l e) (λ s. odd (ap Some (sym s)))) in
        let old = fitted.least k l (there-level k l e) away (λ s. there-other k l e (sym (same_Some key k s))) in omega arith;
    most = λ k l e odd.
        let f = ap length (d.cells k (there-other k l e) (λ s. odd (ap Some (sym s)))) in
        let old = fitted.most k l (there-level k l e) (λ s. there-other k l e (sym (same_Some key k s))) in omega arith;
    boxes = λ k. elim (cases_eq k key) [
      | inl here ↦ subst (All B) (sym (ap (cells_at b) here ∙ ap cells_of d.gone)) (All-nil B)
      | inr stays ↦ elim (cases_eq k parent) [
        | inl here ↦ subst (All B) (sym (ap (cells_at b) here ∙ d.shorter)) (All-remove B (cells_at a parent) at (fitted.boxes parent))
        | inr other ↦ subst (All B) (sym (d.cells k stays other)) (fitted.boxes k)
      ]
    ];
    hulls = λ k l e j x within odd.
        let free = free-cells k l e j x within in
        let all = left-cells (λ c. Some key ≢ Some (key_of c) → c.rect ≡ hull_at a (key_of c)) k (suc l) e (fitted.hulls k l (there-level k (suc l) e)) in
        all j x within (λ s. free (sym (same_Some key _ s))) ∙ sym (same-hull _ free (λ s. odd (ap Some (sym s))));
    pending_boxes = All-append (λ v. IsBox D v.cell.rect) ws (pending_at n.level n.cells) fitted.pending_boxes
        (All-map (λ v. IsBox D v.cell.rect) (λ c. record { level = n.level; cell = c }) n.cells (subst (All B) (ap cells_of has) (fitted.boxes key)));
    pending_hulls =
        let H : Pending D → Type 0 = λ v. (i : ℕ) → v.level ≡ suc i → v.cell.rect ≡ hull_at b (key_of v.cell) in
        All-append H ws (pending_at n.level n.cells)
        (λ j x within i e.
        let v = get_or ws j x in
        let is = linked.pending_named j x within i e in
        let below = low j x within in
        let lower : i < n.level = omega arith in
        fitted.pending_hulls j x within i e ∙ sym (same-hull _ (below-key v.cell i lower is.level_is) (below-parent v.cell i lower is.level_is)))
        (All-map H (λ c. record { level = n.level; cell = c }) n.cells (λ j x within i e.
        let c = get_or n.cells j x in
        let is = (own-children i e j x within).names in
        let lower : i < n.level = omega arith in
        let free = below-key c i lower is.level_is in
        let old = subst (All (λ c. Some key ≢ Some (key_of c) → c.rect ≡ hull_at a (key_of c))) (ap cells_of has) (fitted.hulls key i (level_key ∙ ap Some e)) in
        old j x within (λ s. free (sym (same_Some key _ s))) ∙ sym (same-hull _ free (below-parent c i lower is.level_is))));
  }
    where
      B : Cell D → Type 0
      B c = IsBox D c.rect

  leaf-gone : leaf_cells_at b key ≡ []
  leaf-gone = ap leaf_cells_of d.gone

  leaf-other : (x : ℕ) → x ≢ key → leaf_cells_at b x ≡ leaf_cells_at a x
  leaf-other x stays = elim (cases_eq x parent) [
    | inl here ↦
        ap (leaf_cells_at b) here ∙ leaf-at_inner b parent n.level (d.levels parent (λ s. not_parent (sym s)) ∙ up_level)
        ∙ sym (ap (leaf_cells_at a) here ∙ leaf-at_inner a parent n.level up_level)
    | inr other ↦ leaf-same a b x (d.levels x stays) (d.cells x stays other)
  ]

  own-rows : leaf_cells_at a key ≡ leaf_part n.level n.cells
  own-rows = ap leaf_cells_of has

  pub dissolved-homes : (f : ℤ → Option ℕ) → HasHomes f a ws → HasHomes f b (ws ++ pending_at n.level n.cells)
  dissolved-homes f homes = record {
    home = λ k id some. elim (cases_eq k key) [
      | inl here ↦
          let e = ap (λ y. times_listed id (leaf_cells_at b y)) here in
          let none = ap (times_listed id) leaf-gone in absurd (omega arith)
      | inr other ↦ homes.home k id (let e = ap (times_listed id) (leaf-other k other) in omega arith)
    ];
    there = λ k id is.
        let old = homes.there k id is in
        let step = rows-joined (has_id id) ws n.level n.cells in
        let own = ap (times_listed id) own-rows in
        elim (cases_eq k key) [
          | inl here ↦
              let e = ap (λ y. times_listed id (leaf_cells_at b y)) here in
              let o = ap (λ y. times_listed id (leaf_cells_at a y)) here in
              let none = ap (times_listed id) leaf-gone in omega arith
          | inr other ↦
              let e = ap (times_listed id) (leaf-other k other) in
              let free : times_listed id (leaf_cells_at a key) ≡ 0 = elim (cases_eq (times_listed id (leaf_cells_at a key)) 0) [
                | inl none ↦ none
                | inr some ↦ absurd (other (same_Some k key (sym is ∙ homes.home key id (omega arith))))
              ] in omega arith
        ];
    pending = λ id some.
        let step = rows-joined (has_id id) ws n.level n.cells in
        let own = ap (times_listed id) own-rows in
        elim (cases_eq (times_listed id (pending_rows ws)) 0) [
          | inl none ↦ ap is_some (homes.home key id (omega arith))
          | inr waited ↦ homes.pending id (omega arith)
        ];
  }

  pub dissolved-rows : (test : Cell D → Bool) → count_rows test b (ws ++ pending_at n.level n.cells) ≡ count_rows test a ws
  dissolved-rows test =
      let F : Option (NodeCells D) → ℕ = λ place. count_by test (leaf_cells_of place) in
      let sums = sums-but F refl a.slots b.slots key (λ k ne. ap (count_by test) (leaf-other k ne)) in
      let none : F (get b key) ≡ 0 = ap (count_by test) leaf-gone in
      let own : F (get a key) ≡ count_by test (leaf_part n.level n.cells) = ap (count_by test) own-rows in
      let step = rows-joined test ws n.level n.cells in
      omega arith
