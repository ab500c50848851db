-- A row that left its leaf.
use Rattle.std.proofs.Common.{◌≡◌, ◌≢◌, ℕ, zero, suc, ◌+◌, ◌<◌, ◌≤◌, Bool, true, false, cond, ℤ, pos, List, [], ◌∷◌, length, get_or, Option, Some, None, count_by, arith, refl, ap, sym, subst, ◌∙◌, inl, inr}
use Rattle.std.specs.Prelude.{slice_get}
use Rattle.std.specs.List.{All, remove}
use Rattle.std.specs.Ordering.{int_eq}
use Rattle.std.proofs.lemmas.Bool.{cases_eq, cases_lt, false_from_ne_true}
use Rattle.std.proofs.lemmas.Bool.Decides.{Decides-int_eq}
use Rattle.std.proofs.lemmas.Option.{same_Some, none-some, slice_get_within, get_or_from_slice_get}
use Rattle.std.proofs.lemmas.List.{get_or_read}
use Rattle.std.proofs.lemmas.List.Edits.{length-remove}
use Rattle.std.proofs.lemmas.List.Elements.{All-nil}
use Rattle.std.proofs.lemmas.List.Sums.{sum_by-remove}
use Rattle.slab.specs.Slab.{Slab, get}
use Rattle.indexmap.specs.IndexMap.{get as leaf_of}
use Rattle.rt_box.specs.declared.interval.Interval.{Interval}
use Rattle.rt_box.specs.Rect.{IsBox}
use Rattle.rt_box.specs.Hull.{hull}
use Rattle.rt_tree_node.specs.declared.arena.Arena.{Arena}
use Rattle.rt_tree_node.specs.declared.cell.Cell.{Cell}
use Rattle.rt_tree_node.specs.Node.{NodeCells}
use Rattle.rt_tree_node.specs.Changes.{Puts, Changes}
use Rattle.rt_tree_node.specs.Places.{key_of, rects, times_named, times_listed, cells_of, leaf_cells_of, leaf_part, level_of, cells_at, inner_cells_at, leaf_cells_at, level_at, parent_at, hull_at, pending_rows, pending_nodes, count_rows}
use Rattle.rt_tree_node.specs.Sound.{NamesChild, IsLinked, IsFitted, HasHomes}
use Rattle.rt_tree_node.specs.Whole.{IsWhole, IsBranched}
use Rattle.rt_tree_node.proofs.Counts.{count-zero}
use Rattle.rt_tree_node.proofs.Places.{inner-at_leaf, leaf-at_leaf, has_id}
use Rattle.rt_tree_node.proofs.Links.{same-above, Names-same, NamesChild-same}
use Rattle.rt_tree_node.proofs.Homes.{same-id}
use Rattle.rt_tree_remove.specs.Steps.{IsSoundBut, Forgets, Takes}
use Rattle.rt_tree_remove.proofs.Changed.{changed-levels, changed-parents, changed-others, changed-cells}
use Rattle.rt_tree_remove.proofs.Dissolved.{All-remove, parent-named, inner-same, leaf-same}
use Rattle.rt_tree_node.proofs.Sums.{sums-but}

module _ {D : ℕ} where
  leaf-of : (s : Option (NodeCells D)) (id : ℤ) → 0 < times_listed id (leaf_cells_of s) → level_of s ≡ Some 0
  leaf-of None id some = absurd (omega arith)
  leaf-of (Some n) id some = by n.level refl
    where
      by : (l : ℕ) → n.level ≡ l → Some n.level ≡ Some 0
      by zero e = ap Some e
      by (suc l) e =
          let none = ap (λ i. times_listed id (leaf_part i n.cells)) e in absurd (omega arith)

  listed-some : (id : ℤ) (cs : List (Cell D)) → 0 < times_listed id cs → 0 < length cs
  listed-some id [] some = absurd (omega arith)
  listed-some id (c ∷ cs) some = omega arith

module _ {D : ℕ} (t : Arena D) (id : ℤ) (leaf : ℕ) (whole : IsWhole t) (idle : t.pending.items ≡ []) (home : leaf_of int_eq t.leaves id ≡ Some leaf) where
  linked : IsLinked t.nodes t.root t.level t.pending.items
  linked = whole.linked

  fitted : IsFitted t.capacity t.nodes t.root t.pending.items None
  fitted = whole.fitted

  homes : HasHomes (leaf_of int_eq t.leaves) t.nodes t.pending.items
  homes = whole.homes

  none-listed : (other : ℤ) → times_listed other (pending_rows t.pending.items) ≡ 0
  none-listed other = ap (λ ws. times_listed other (pending_rows ws)) idle

  listed-once : times_listed id (leaf_cells_at t.nodes leaf) ≡ 1
  listed-once = let once = homes.there leaf id home in let none = none-listed id in omega arith

  pub leaf-level : level_at t.nodes leaf ≡ Some 0
  leaf-level = let once = listed-once in leaf-of (get t.nodes leaf) id (omega arith)

  leaf-cells : leaf_cells_at t.nodes leaf ≡ cells_at t.nodes leaf
  leaf-cells = leaf-at_leaf t.nodes leaf leaf-level

  pub row-listed : times_listed id (cells_at t.nodes leaf) ≡ 1
  row-listed = sym (ap (times_listed id) leaf-cells) ∙ listed-once

  pub few-axes : D ≤ 3
  few-axes =
      let c : Cell D = record { number = pos 0; rect = [] } in
      let once = row-listed in
      (fitted.boxes leaf 0 c (listed-some id (cells_at t.nodes leaf) (omega arith))).few

  parent-high : IsBranched t → leaf ≢ t.root → 2 ≤ length (cells_at t.nodes t.root)
  parent-high branched away =
      let none : times_named leaf (pending_nodes t.pending.items) ≡ 0 = ap (λ ws. times_named leaf (pending_nodes ws)) idle in
      let up = parent-named t.nodes t.root t.level t.pending.items linked leaf 0 leaf-level away none in
      let high = linked.levels up.0 1 up.2 in branched (omega arith)

  -- a whole tree is sound also if the leaf is excepted
  pub whole-but : IsBranched t → IsSoundBut t leaf
  whole-but branched = record {
    axes = few-axes;
    sound = record {
      linked = linked;
      fitted = record {
        cap = fitted.cap;
        some = fitted.some;
        least = λ k i e away odd. fitted.least k i e away (λ s. none-some k s);
        most = λ k i e odd. fitted.most k i e (λ s. none-some k s);
        boxes = fitted.boxes;
        hulls = λ k i e j d w odd. fitted.hulls k i e j d w (λ s. none-some _ s);
        pending_boxes = fitted.pending_boxes;
        pending_hulls = fitted.pending_hulls;
      };
      homes = homes;
    };
    level = 0;
    here = leaf-level;
    below = subst (All (λ w. w.level < 0)) (sym idle) (All-nil (λ w. w.level < 0));
    few = let none = ap length idle in omega arith;
    nearly = λ away. let least = fitted.least leaf 0 leaf-level away (λ s. none-some leaf s) in omega arith;
    most = fitted.most leaf 0 leaf-level (λ s. none-some leaf s);
    branched = parent-high branched;
  }

  module _ (b : Slab (NodeCells D)) (at : ℕ) (n : NodeCells D) (rect : List Interval) (has : get t.nodes leaf ≡ Some n)
      (was : slice_get (cells_at t.nodes leaf) at ≡ Some record { number = id; rect = rect })
      (puts : Puts t.nodes b leaf (record n { cells = remove n.cells at })) where
    abbrev row : Cell D
    row = record { number = id; rect = rect }

    within : at < length (cells_at t.nodes leaf)
    within = slice_get_within (cells_at t.nodes leaf) at row was

    row-is : (d : Cell D) → get_or (cells_at t.nodes leaf) at d ≡ row
    row-is d = get_or_from_slice_get (cells_at t.nodes leaf) at row d was

    levels : (k : ℕ) → level_at b k ≡ level_at t.nodes k
    levels = changed-levels t.nodes b leaf n (remove n.cells at) has puts

    parents : (k : ℕ) → parent_at b k ≡ parent_at t.nodes k
    parents = changed-parents t.nodes b leaf n (remove n.cells at) has puts

    others : (k : ℕ) → k ≢ leaf → cells_at b k ≡ cells_at t.nodes k
    others = changed-others t.nodes b leaf n (remove n.cells at) has puts

    shorter : cells_at b leaf ≡ remove (cells_at t.nodes leaf) at
    shorter = changed-cells t.nodes b leaf n (remove n.cells at) has puts ∙ ap (λ cs. remove cs at) (sym (ap cells_of has))

    inner-other : (k l : ℕ) → level_at t.nodes k ≡ Some (suc l) → k ≢ leaf
    inner-other k l e same = let i = same_Some _ _ (sym e ∙ ap (level_at t.nodes) same ∙ leaf-level) in omega arith

    inner-cells : (k : ℕ) → inner_cells_at b k ≡ inner_cells_at t.nodes k
    inner-cells k = elim (cases_eq k leaf) [
      | inl e ↦ ap (inner_cells_at b) e ∙ inner-at_leaf b leaf (levels leaf ∙ leaf-level) ∙ sym (ap (inner_cells_at t.nodes) e ∙ inner-at_leaf t.nodes leaf leaf-level)
      | inr other ↦ inner-same t.nodes b k (levels k) (others k other)
    ]

    taken-linked : IsLinked b t.root t.level t.pending.items
    taken-linked = record {
      root_level = levels t.root ∙ linked.root_level;
      root_parent = parents t.root ∙ linked.root_parent;
      root_waits_not = linked.root_waits_not;
      levels = λ k i e. linked.levels k i (sym (levels k) ∙ e);
      children = λ k i e. subst (All (NamesChild b i k)) (sym (others k (inner-other k i (sym (levels k) ∙ e)))) (λ j d w.
          let x = get_or (cells_at t.nodes k) j d in
          NamesChild-same t.nodes b i k x (levels (key_of x)) (parents (key_of x)) (linked.children k i (sym (levels k) ∙ e) j d w));
      named = λ k i e other. ap (λ cs. times_named k cs + times_named k (pending_nodes t.pending.items)) (same-above t.nodes b inner-cells k (parents k))
          ∙ linked.named k i (sym (levels k) ∙ e) other;
      pending_levels = linked.pending_levels;
      pending_named = λ j d w i e. Names-same t.nodes b i (get_or t.pending.items j d).cell (levels (key_of (get_or t.pending.items j d).cell)) (linked.pending_named j d w i e);
    }

    taken-fitted : IsFitted t.capacity b t.root t.pending.items (Some leaf)
    taken-fitted = record {
      cap = fitted.cap;
      some = λ k i e.
          let lev = sym (levels k) ∙ e in
          let long = ap length (others k (inner-other k i lev)) in
          let old = fitted.some k i lev in omega arith;
      least = λ k i e away odd.
          let long = ap length (others k (λ s. odd (ap Some (sym s)))) in
          let old = fitted.least k i (sym (levels k) ∙ e) away (λ s. none-some k s) in omega arith;
      most = λ k i e odd.
          let long = ap length (others k (λ s. odd (ap Some (sym s)))) in
          let old = fitted.most k i (sym (levels k) ∙ e) (λ s. none-some k s) in omega arith;
      boxes = λ k. elim (cases_eq k leaf) [
        | inl e ↦ subst (All (λ x. IsBox D x.rect)) (sym (ap (cells_at b) e ∙ shorter)) (All-remove (λ x. IsBox D x.rect) (cells_at t.nodes leaf) at (fitted.boxes leaf))
        | inr other ↦ subst (All (λ x. IsBox D x.rect)) (sym (others k other)) (fitted.boxes k)
      ];
      hulls = λ k i e. subst (All (λ x. Some leaf ≢ Some (key_of x) → x.rect ≡ hull_at b (key_of x))) (sym (others k (inner-other k i (sym (levels k) ∙ e)))) (λ j d w odd.
          let x = get_or (cells_at t.nodes k) j d in
          fitted.hulls k i (sym (levels k) ∙ e) j d w (λ s. none-some (key_of x) s)
          ∙ sym (ap (λ cs. hull (rects cs)) (others (key_of x) (λ s. odd (ap Some (sym s))))));
      pending_boxes = fitted.pending_boxes;
      pending_hulls = subst (All (λ w. (i : ℕ) → w.level ≡ suc i → w.cell.rect ≡ hull_at b (key_of w.cell))) (sym idle)
          (All-nil (λ w. (i : ℕ) → w.level ≡ suc i → w.cell.rect ≡ hull_at b (key_of w.cell)));
    }

    leaf-removed : leaf_cells_at b leaf ≡ remove (cells_at t.nodes leaf) at
    leaf-removed = leaf-at_leaf b leaf (levels leaf ∙ leaf-level) ∙ shorter

    -- one row less passes where the row passed
    pub removed-count : (test : Cell D → Bool) → count_by test (leaf_cells_at b leaf) + cond (test row) 1 0 ≡ count_by test (leaf_cells_at t.nodes leaf)
    removed-count test =
        let step = sum_by-remove (λ x. cond (test x) 1 0) (cells_at t.nodes leaf) at row within in
        let it : ◌≡◌ {A = ℕ} (cond (test (get_or (cells_at t.nodes leaf) at row)) 1 0) (cond (test row) 1 0) = ap (λ x. cond (test x) 1 0) (row-is row) in
        let p = ap (count_by test) leaf-removed in
        let q = ap (count_by test) leaf-cells in
        omega arith

    listed-own : times_listed id (leaf_cells_at b leaf) ≡ 0
    listed-own =
        let step = removed-count (has_id id) in
        let one : ◌≡◌ {A = ℕ} (cond (has_id id row) 1 0) 1 = ap (λ b. cond b 1 0) ((Decides-int_eq id id).1 refl) in
        let once = listed-once in omega arith

    listed-other : (other : ℤ) → other ≢ id → (k : ℕ) → times_listed other (leaf_cells_at b k) ≡ times_listed other (leaf_cells_at t.nodes k)
    listed-other other differs k = elim (cases_eq k leaf) [
      | inl e ↦
          let step = removed-count (has_id other) in
          let none : ◌≡◌ {A = ℕ} (cond (has_id other row) 1 0) 0 = not-it (int_eq other id) refl in
          let p = ap (λ y. times_listed other (leaf_cells_at b y)) e in
          let q = ap (λ y. times_listed other (leaf_cells_at t.nodes y)) e in omega arith
      | inr away ↦ ap (times_listed other) (leaf-same t.nodes b k (levels k) (others k away))
    ]
      where
        not-it : (v : Bool) → int_eq other id ≡ v → ◌≡◌ {A = ℕ} (cond (int_eq other id) 1 0) 0
        not-it true e = absurd (differs ((Decides-int_eq other id).0 e))
        not-it false e = ap (λ v. cond v 1 0) e

    taken-homes : (g : ℤ → Option ℕ) → g id ≡ None → ((other : ℤ) → other ≢ id → g other ≡ leaf_of int_eq t.leaves other) → HasHomes g b t.pending.items
    taken-homes g gone rest = record {
      home = λ k other some. elim (same-id other id) [
        | inl e ↦
            let moved = ap (λ i. times_listed i (leaf_cells_at b k)) e in
            elim (cases_eq k leaf) [
              | inl here ↦
                  let p = ap (λ y. times_listed id (leaf_cells_at b y)) here in
                  let none = listed-own in absurd (omega arith)
              | inr away ↦
                  let p = ap (times_listed id) (leaf-same t.nodes b k (levels k) (others k away)) in
                  absurd (away (same_Some _ _ (sym (homes.home k id (omega arith)) ∙ home)))
            ]
        | inr differs ↦ let same = listed-other other differs k in rest other differs ∙ homes.home k other (omega arith)
      ];
      there = λ k other is. elim (same-id other id) [
        | inl e ↦ absurd (none-some k (sym gone ∙ ap g (sym e) ∙ is))
        | inr differs ↦
            let same = listed-other other differs k in
            let old = homes.there k other (sym (rest other differs) ∙ is) in omega arith
      ];
      pending = λ other some. let none = none-listed other in absurd (omega arith);
    }

    taken-rows : (test : Cell D → Bool) → count_rows test b t.pending.items + cond (test row) 1 0 ≡ count_rows test t.nodes t.pending.items
    taken-rows test =
        let F : Option (NodeCells D) → ℕ = λ place. count_by test (leaf_cells_of place) in
        let sums = sums-but F refl t.nodes.slots b.slots leaf (λ k ne. ap (count_by test) (leaf-same t.nodes b k (levels k) (others k ne))) in
        let step = removed-count test in
        omega arith

    taken-but : IsBranched t → (u : Arena D) → leaf_of int_eq u.leaves id ≡ None → ((other : ℤ) → other ≢ id → leaf_of int_eq u.leaves other ≡ leaf_of int_eq t.leaves other) →
        IsSoundBut (record t { nodes = b; leaves = u.leaves }) leaf
    taken-but branched u gone rest =
        let fewer = length-remove (cells_at t.nodes leaf) at within in
        let long = ap length shorter in
        record {
          axes = few-axes;
          sound = record { linked = taken-linked; fitted = taken-fitted; homes = taken-homes (leaf_of int_eq u.leaves) gone rest };
          level = 0;
          here = levels leaf ∙ leaf-level;
          below = subst (All (λ w. w.level < 0)) (sym idle) (All-nil (λ w. w.level < 0));
          few = let none = ap length idle in omega arith;
          nearly = λ away. let least = fitted.least leaf 0 leaf-level away (λ s. none-some leaf s) in omega arith;
          most = let most = fitted.most leaf 0 leaf-level (λ s. none-some leaf s) in omega arith;
          branched = λ away.
              let same = ap length (others t.root (λ s. away (sym s))) in
              let two = parent-high branched away in omega arith;
        }

    pub takes : IsBranched t → (u : Arena D) → Forgets t.leaves u.leaves id →
        Changes (λ m. record m { cells = remove m.cells at }) t.nodes b leaf →
        Takes t (record t { nodes = b; leaves = u.leaves }) id leaf at rect
    takes branched u forgets change = record {
      but = taken-but branched u forgets.gone forgets.others;
      home = home;
      bottom = levels leaf ∙ leaf-level;
      cell = was;
      change = change;
      forgets = forgets;
      rows = taken-rows;
      pending = refl;
      root = refl;
      level = refl;
      capacity = refl;
    }

module _ {D : ℕ} where
  -- the position of a row that is listed
  pub listed-place : (id : ℤ) (cs : List (Cell D)) (at : ℕ) → times_listed id cs ≡ 1 → ((k : ℕ) (d : Cell D) → k < at → (get_or cs k d).number ≢ id) → at < length cs
  listed-place id cs at once first = elim (cases_lt at (length cs)) [
    | inl within ↦ within
    | inr past ↦
        let none : times_listed id cs ≡ 0 = count-zero (has_id id) cs (λ k d within.
        false_from_ne_true (has_id id (get_or cs k d)) (λ e. first k d (omega arith) (sym ((Decides-int_eq id (get_or cs k d).number).0 e)))) in
        absurd (omega arith)
  ]

  -- the cell that was found at it
  pub row-found : (a : Slab (NodeCells D)) (leaf at : ℕ) (n : NodeCells D) (id : ℤ) (c : Cell D) → get a leaf ≡ Some n → at < length n.cells →
      ((d : Cell D) → at < length n.cells → (get_or n.cells at d).number ≡ id) → c ≡ get_or n.cells at c →
      (at < length (cells_at a leaf)) × ((d : Cell D) → get_or (cells_at a leaf) at d ≡ c) × (c.number ≡ id)
  row-found a leaf at n id c has within found c_is =
      let own = ap (λ s. length (cells_of s)) has in (
        (omega arith),
        (λ d. ap (λ s. get_or (cells_of s) at d) has ∙ sym (get_or_read n.cells at c within c_is d)),
        ap (λ x. x.number) c_is ∙ found c within,
      )
