-- An inner root with one child, which is the root now.
use Rattle.std.proofs.Common.{◌≡◌, ◌≢◌, ℕ, suc, ◌<◌, ◌≤◌, Bool, ℤ, pos, List, [], ◌∷◌, map, length, get_or, Option, Some, None, count_by, arith, refl, ap, sym, subst, ◌∙◌, inl, inr}
use Rattle.std.specs.List.{All}
use Rattle.std.specs.Prelude.{unsigned_abs}
use Rattle.std.specs.Ordering.{int_eq}
use Rattle.std.proofs.lemmas.Option.{same_Some, none-some}
use Rattle.std.proofs.lemmas.Bool.{cases_eq}
use Rattle.std.proofs.lemmas.List.Elements.{All-nil}
use Rattle.slab.specs.Slab.{Slab, get, Updates}
use Rattle.indexmap.specs.IndexMap.{get as leaf_of}
use Rattle.rt_box.specs.Rect.{IsBox}
use Rattle.rt_box.specs.Hull.{hull}
use Rattle.rt_tree_node.specs.declared.arena.Arena.{Arena}
use Rattle.rt_tree_node.specs.declared.cell.Cell.{Cell}
use Rattle.rt_tree_node.specs.Node.{NodeCells}
use Rattle.rt_tree_node.specs.Changes.{Puts}
use Rattle.rt_tree_node.specs.Places.{key_of, rects, times_named, times_listed, cells_of, leaf_cells_of, level_of, parent_of, cells_at, leaf_cells_at, level_at, parent_at, hull_at, pending_nodes, count_rows}
use Rattle.rt_tree_node.specs.Sound.{Names, NamesChild, IsLinked, IsFitted}
use Rattle.rt_tree_node.specs.Whole.{IsWhole, IsBranched}
use Rattle.rt_tree_node.proofs.Places.{inner-at_inner, leaf-at_inner, named-none}
use Rattle.rt_tree_node.proofs.Links.{above-some, NamesChild-same}
use Rattle.rt_tree_node.proofs.Homes.{homes-same}
use Rattle.rt_tree_remove.specs.Steps.{LosesRoot, GivesWay}
use Rattle.rt_tree_remove.proofs.Dissolved.{parent-named, leaf-same}
use Rattle.rt_tree_remove.proofs.Changed.{named-at}
use Rattle.rt_tree_node.proofs.Sums.{sums-same}

module _ {D : ℕ} where
  one-alone : (cs : List (Cell D)) (d : Cell D) → length cs ≡ 1 → cs ≡ get_or cs 0 d ∷ []
  one-alone [] d one = absurd (omega arith)
  one-alone (c ∷ []) d one = refl
  one-alone (c ∷ b ∷ cs) d one = absurd (omega arith)

  -- a root with two cells, or a leaf, stays
  pub way-still : (s t : Arena D) → GivesWay s t → IsBranched s → t ≡ s
  way-still s t gives branched = elim gives.way [
    | inl kept ↦ kept.1
    | inr h ↦ let two = branched (let high = h.level in omega arith) in absurd (omega (arith, ap length h.only))
  ]

  pub loses-root : (a s b : Slab (NodeCells D)) (root child : ℕ) (n : NodeCells D) → root ≢ child → Updates a s root None → get s child ≡ Some n →
      Puts s b child (record n { parent = None }) → LosesRoot a b root child
  loses-root a s b root child n apart u has puts = record {
    gone = puts.updates.others root apart ∙ u.changed;
    levels = λ k stays. elim (cases_eq k child) [
      | inl e ↦ ap (level_at b) e ∙ ap level_of puts.updates.changed ∙ sym (ap level_of has) ∙ ap level_of (u.others child (λ s. apart (sym s))) ∙ ap (level_at a) (sym e)
      | inr other ↦ ap level_of (puts.updates.others k other) ∙ ap level_of (u.others k stays)
    ];
    parents = λ k stays other. ap parent_of (puts.updates.others k other) ∙ ap parent_of (u.others k stays);
    top = ap parent_of puts.updates.changed;
    cells = λ k stays. elim (cases_eq k child) [
      | inl e ↦ ap (cells_at b) e ∙ ap cells_of puts.updates.changed ∙ sym (ap cells_of has) ∙ ap cells_of (u.others child (λ s. apart (sym s))) ∙ ap (cells_at a) (sym e)
      | inr other ↦ ap cells_of (puts.updates.others k other) ∙ ap cells_of (u.others k stays)
    ];
  }

module _ {D : ℕ} where
  -- an inner root has a cell, so there are few axes
  pub first-few : (t : Arena D) (l : ℕ) → IsWhole t → t.level ≡ suc l → D ≤ 3
  first-few t l whole height =
      let c : Cell D = record { number = pos 0; rect = [] } in
      let one = whole.fitted.some t.root l (whole.linked.root_level ∙ ap Some height) in
      (whole.fitted.boxes t.root 0 c (omega arith)).few

  pub first-child : (a : Slab (NodeCells D)) (root child : ℕ) (n : NodeCells D) (ns : List ℤ) → get a root ≡ Some n → ns ≡ map (λ c. c.number) n.cells →
      0 < length ns → ((d : ℤ) → child ≡ unsigned_abs (get_or ns 0 d)) → (d : Cell D) → key_of (get_or (cells_at a root) 0 d) ≡ child
  first-child a root child n ns has is some first d =
      let place = named-at n.cells ns child 0 is some (λ x. sym (first x)) in
      ap (λ cs. key_of (get_or cs 0 d)) (ap cells_of has) ∙ place.names d

module _ {D : ℕ} (t : Arena D) (l child : ℕ) (whole : IsWhole t) (idle : t.pending.items ≡ []) (height : t.level ≡ suc l)
    (alone : length (cells_at t.nodes t.root) ≤ 1) (child_is : (d : Cell D) → key_of (get_or (cells_at t.nodes t.root) 0 d) ≡ child) where
  a : Slab (NodeCells D)
  a = t.nodes

  linked : IsLinked t.nodes t.root t.level t.pending.items
  linked = whole.linked

  fitted : IsFitted t.capacity t.nodes t.root t.pending.items None
  fitted = whole.fitted

  none-waits : (k : ℕ) → times_named k (pending_nodes t.pending.items) ≡ 0
  none-waits k = ap (λ ws. times_named k (pending_nodes ws)) idle

  some-cell : Cell D
  some-cell = record { number = pos 0; rect = [] }

  root-inner : level_at t.nodes t.root ≡ Some (suc l)
  root-inner = linked.root_level ∙ ap Some height

  pub root-long : length (cells_at t.nodes t.root) ≡ 1
  root-long = let one = fitted.some t.root l root-inner in omega arith

  child-named : NamesChild t.nodes l t.root (get_or (cells_at t.nodes t.root) 0 some-cell)
  child-named = linked.children t.root l root-inner 0 some-cell (let one = root-long in omega arith)

  pub child-level : level_at t.nodes child ≡ Some l
  child-level = ap (level_at t.nodes) (sym (child_is some-cell)) ∙ child-named.names.level_is

  child-parent : parent_at t.nodes child ≡ Some t.root
  child-parent = ap (parent_at t.nodes) (sym (child_is some-cell)) ∙ child-named.parent_is

  pub root-not_child : t.root ≢ child
  root-not_child e = none-some t.root (sym linked.root_parent ∙ ap (parent_at t.nodes) e ∙ child-parent)

  -- each node but the root is named by its parent, which is no higher than the root
  parent-of : (k i : ℕ) → level_at t.nodes k ≡ Some i → k ≢ t.root →
      (p : ℕ) × (parent_at t.nodes k ≡ Some p) × (level_at t.nodes p ≡ Some (suc i)) × (times_named k (cells_at t.nodes p) ≡ 1)
  parent-of k i e away = parent-named t.nodes t.root t.level t.pending.items linked k i e away (none-waits k)

  below-root : (k i : ℕ) → level_at t.nodes k ≡ Some i → k ≢ t.root → i ≤ l
  below-root k i e away =
      let up = parent-of k i e away in
      let high = linked.levels up.0 (suc i) up.2 in omega arith

  -- the root names its child alone
  named-by_root : (k : ℕ) → k ≢ child → times_named k (cells_at t.nodes t.root) ≡ 0
  named-by_root k other = named-none k (cells_at t.nodes t.root) (λ j d within e.
      let one = root-long in
      let j_is : j ≡ 0 = omega arith in
      other (sym e ∙ ap (λ i. key_of (get_or (cells_at t.nodes t.root) i d)) j_is ∙ child_is d))

  pub child-filled : 2 ≤ length (cells_at t.nodes child)
  child-filled =
      let least = fitted.least child l child-level (λ e. root-not_child (sym e)) (λ e. none-some child e) in
      let cap = fitted.cap in omega arith

  module _ (b : Slab (NodeCells D)) (h : LosesRoot t.nodes b t.root child) where
    stays : (k i : ℕ) → level_at b k ≡ Some i → k ≢ t.root
    stays k i e same = none-some i (sym (ap level_of h.gone) ∙ ap (level_at b) (sym same) ∙ e)

    was : (k i : ℕ) → level_at b k ≡ Some i → level_at t.nodes k ≡ Some i
    was k i e = sym (h.levels k (stays k i e)) ∙ e

    -- a node that a node below the root names
    named-deep : (k i : ℕ) → level_at b k ≡ Some (suc i) → (j : ℕ) (d : Cell D) → j < length (cells_at t.nodes k) →
        (key_of (get_or (cells_at t.nodes k) j d) ≢ t.root) × (key_of (get_or (cells_at t.nodes k) j d) ≢ child)
    named-deep k i e j d within =
        let is = linked.children k i (was k (suc i) e) j d within in (
          (λ same. none-some k (sym linked.root_parent ∙ ap (parent_at t.nodes) (sym same) ∙ is.parent_is)),
          (λ same. stays k (suc i) e (same_Some _ _ (sym is.parent_is ∙ ap (parent_at t.nodes) same ∙ child-parent))),
        )

    given-linked : IsLinked b child l t.pending.items
    given-linked = record {
      root_level = h.levels child (λ e. root-not_child (sym e)) ∙ child-level;
      root_parent = h.top;
      root_waits_not = none-waits child;
      levels = λ k i e. below-root k i (was k i e) (stays k i e);
      children = λ k i e. subst (All (NamesChild b i k)) (sym (h.cells k (stays k (suc i) e))) (λ j d within.
          let c = get_or (cells_at t.nodes k) j d in
          let deep = named-deep k i e j d within in
          NamesChild-same t.nodes b i k c (h.levels (key_of c) deep.0) (h.parents (key_of c) deep.0 deep.1) (linked.children k i (was k (suc i) e) j d within));
      named = λ k i e other.
          let up = parent-of k i (was k i e) (stays k i e) in
          let away : up.0 ≢ t.root = λ same.
          let none = named-by_root k other in
          let one = ap (λ p. times_named k (cells_at t.nodes p)) same in
          let once = up.3 in omega arith in
          let above = ap (times_named k) (above-some b k up.0 (h.parents k (stays k i e) other ∙ up.1)) in
          let inner = ap (times_named k) (inner-at_inner b up.0 i (h.levels up.0 away ∙ up.2)) in
          let cells = ap (times_named k) (h.cells up.0 away) in
          let once = up.3 in
          let none = none-waits k in omega arith;
      pending_levels = subst (All (λ w. w.level ≤ l)) (sym idle) (All-nil (λ w. w.level ≤ l));
      pending_named = subst (All (λ w. (i : ℕ) → w.level ≡ suc i → Names b i w.cell)) (sym idle) (All-nil (λ w. (i : ℕ) → w.level ≡ suc i → Names b i w.cell));
    }

    same-hull : (k : ℕ) → k ≢ t.root → hull_at b k ≡ hull_at t.nodes k
    same-hull k away = ap (λ cs. hull (rects cs)) (h.cells k away)

    given-fitted : IsFitted t.capacity b child t.pending.items None
    given-fitted = record {
      cap = fitted.cap;
      some = λ k i e. let long = ap length (h.cells k (stays k (suc i) e)) in let old = fitted.some k i (was k (suc i) e) in omega arith;
      least = λ k i e other odd. let long = ap length (h.cells k (stays k i e)) in let old = fitted.least k i (was k i e) (stays k i e) odd in omega arith;
      most = λ k i e odd. let long = ap length (h.cells k (stays k i e)) in let old = fitted.most k i (was k i e) odd in omega arith;
      boxes = λ k. elim (cases_eq k t.root) [
        | inl e ↦ subst (All (λ c. IsBox D c.rect)) (sym (ap (cells_at b) e ∙ ap cells_of h.gone)) (All-nil (λ c. IsBox D c.rect))
        | inr away ↦ subst (All (λ c. IsBox D c.rect)) (sym (h.cells k away)) (fitted.boxes k)
      ];
      hulls = λ k i e. subst (All (λ c. None ≢ Some (key_of c) → c.rect ≡ hull_at b (key_of c))) (sym (h.cells k (stays k (suc i) e))) (λ j d within odd.
          let deep = named-deep k i e j d within in
          fitted.hulls k i (was k (suc i) e) j d within odd ∙ sym (same-hull _ deep.0));
      pending_boxes = fitted.pending_boxes;
      pending_hulls = subst (All (λ w. (i : ℕ) → w.level ≡ suc i → w.cell.rect ≡ hull_at b (key_of w.cell))) (sym idle)
          (All-nil (λ w. (i : ℕ) → w.level ≡ suc i → w.cell.rect ≡ hull_at b (key_of w.cell)));
    }

    same-leaves : (k : ℕ) → leaf_cells_at b k ≡ leaf_cells_at t.nodes k
    same-leaves k = elim (cases_eq k t.root) [
      | inl e ↦ ap (leaf_cells_at b) e ∙ ap leaf_cells_of h.gone ∙ sym (ap (leaf_cells_at t.nodes) e ∙ leaf-at_inner t.nodes t.root l root-inner)
      | inr away ↦ leaf-same t.nodes b k (h.levels k away) (h.cells k away)
    ]

    given-rows : (test : Cell D → Bool) → count_rows test b t.pending.items ≡ count_rows test t.nodes t.pending.items
    given-rows test =
        let F : Option (NodeCells D) → ℕ = λ place. count_by test (leaf_cells_of place) in
        let sums = sums-same F refl t.nodes.slots b.slots (λ k. ap (count_by test) (same-leaves k)) in
        omega arith

    pub way-given : b.capacity ≡ t.nodes.capacity → GivesWay t (record t { nodes = b; root = child; level = l })
    way-given room = record {
      whole = record {
        linked = given-linked;
        fitted = given-fitted;
        homes = homes-same (leaf_of int_eq t.leaves) t.nodes b t.pending.items (λ k id. ap (times_listed id) (same-leaves k)) whole.homes;
      };
      branched = λ high. let long = ap length (h.cells child (λ e. root-not_child (sym e))) in let two = child-filled in omega arith;
      pending = refl;
      rows = given-rows;
      leaves = refl;
      capacity = refl;
      room = room;
      way = inr record { level = height; cell = get_or (cells_at t.nodes t.root) 0 some-cell; only = one-alone (cells_at t.nodes t.root) some-cell root-long; root = sym (child_is some-cell); nodes = h };
    }

module _ {D : ℕ} where
  -- a leaf as root, or a root with two cells, stays
  pub way-kept : (t : Arena D) → IsWhole t → IsBranched t → GivesWay t t
  way-kept t whole branched = record {
    whole = whole;
    branched = branched;
    pending = refl;
    rows = λ test. refl;
    leaves = refl;
    capacity = refl;
    room = refl;
    way = inl (branched, refl);
  }
