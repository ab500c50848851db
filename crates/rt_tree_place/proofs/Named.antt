-- How many cells name nodes: no more than there are nodes to be named.
use Rattle.std.proofs.Common.{◌≡◌, ◌≢◌, ℕ, zero, suc, ◌+◌, ◌≤◌, Bool, true, false, cond, pos, List, [], ◌∷◌, ◌++◌, length, Option, None, Some, is_some, nat_eq, arith, refl, ap, sym, subst, ◌∙◌, inl, inr, length-append}
use Rattle.std.specs.List.{sum_by, flat_map, All}
use Rattle.std.proofs.lemmas.Bool.{cases_eq, cases_Bool, true≢false}
use Rattle.std.proofs.lemmas.Option.{same_Some, none-some}
use Rattle.std.proofs.lemmas.List.{get_or_past}
use Rattle.std.proofs.lemmas.List.Elements.{All-weaker, All-head}
use Rattle.slab.specs.Slab.{Slab, get, slab_len}
use Rattle.rt_tree_node.specs.declared.cell.Cell.{Cell}
use Rattle.rt_tree_node.specs.declared.cell.Pending.{Pending}
use Rattle.rt_tree_node.specs.Node.{NodeCells}
use Rattle.rt_tree_node.specs.Places.{key_of, times_named, level_of, inner_part, inner_cells_of, level_at, parent_at, cells_above, pending_nodes, sum_over}
use Rattle.rt_tree_node.specs.Sound.{IsLinked, Names, NamesChild}
use Rattle.rt_tree_node.proofs.Counts.{count-append}
use Rattle.rt_tree_node.proofs.Places.{inner-at_inner, names_key, named-none, named-one, named-other}
use Rattle.rt_tree_node.proofs.Links.{above-some, above-none, unnamed-elsewhere, unnamed-vacant, unnamed-by_pending}
use Rattle.rt_tree_node.proofs.Sums.{upto-list}
use Rattle.rt_tree_place.proofs.Sums.{count-flat, length-flat, sum-same, sum-none, sum-only, length-few}

module _ {D : ℕ} where
  -- the cells that name nodes of levels that pass the test
  abbrev pub chosen_part : (ℕ → Bool) → ℕ → List (Cell D) → List (Cell D)
  chosen_part test zero cells = []
  chosen_part test (suc l) cells = cond (test l) cells []

  abbrev pub chosen : (ℕ → Bool) → Option (NodeCells D) → List (Cell D)
  chosen test None = []
  chosen test (Some n) = chosen_part test n.level n.cells

  -- 1 where a place has a node of such a level
  abbrev pub node_in : (ℕ → Bool) → Option (NodeCells D) → ℕ
  node_in test None = 0
  node_in test (Some n) = cond (test n.level) 1 0

  chosen_part-le : (test : ℕ → Bool) (k l : ℕ) (cells : List (Cell D)) → times_named k (chosen_part test l cells) ≤ times_named k (inner_part l cells)
  chosen_part-le test k zero cells = omega arith
  chosen_part-le test k (suc l) cells = elim (cases_Bool (test l)) [
    | inl holds ↦ let e = ap (λ b. times_named k (cond b cells [])) holds in omega (arith, e)
    | inr fails ↦ let e = ap (λ b. times_named k (cond b cells [])) fails in omega (arith, e)
  ]

  chosen-le : (test : ℕ → Bool) (k : ℕ) (s : Option (NodeCells D)) → times_named k (chosen test s) ≤ times_named k (inner_cells_of s)
  chosen-le test k None = omega arith
  chosen-le test k (Some n) = chosen_part-le test k n.level n.cells

  all-chosen : (s : Option (NodeCells D)) → length (chosen (λ i. true) s) ≡ length (inner_cells_of s)
  all-chosen None = refl
  all-chosen (Some n) = by n.level
    where
      by : (l : ℕ) → length (chosen_part (λ i. true) l n.cells) ≡ length (inner_part l n.cells)
      by zero = refl
      by (suc l) = refl

  -- a node of a level that doesn't pass isn't named by chosen cells
  chosen-unnamed : (test : ℕ → Bool) (a : Slab (NodeCells D)) (k l p : ℕ) (s : Option (NodeCells D)) → level_at a k ≡ Some l → test l ≡ false →
      ((i : ℕ) → level_of s ≡ Some (suc i) → All (NamesChild a i p) (inner_cells_of s)) → times_named k (chosen test s) ≡ 0
  chosen-unnamed test a k l p None here fails all = refl
  chosen-unnamed test a k l p (Some n) here fails all = by n.level refl
    where
      by : (i : ℕ) → n.level ≡ i → times_named k (chosen_part test i n.cells) ≡ 0
      by zero e = refl
      by (suc i) e = elim (cases_Bool (test i)) [
        | inl holds ↦
            let cells : inner_part n.level n.cells ≡ n.cells = ap (λ j. inner_part j n.cells) e in
            let names = subst (All (NamesChild a i p)) cells (all i (ap Some e)) in
            let none = named-none k n.cells (All-weaker (NamesChild a i p) (λ c. key_of c ≢ k) (λ c is same.
            let level : i ≡ l = same_Some i l (sym is.names.level_is ∙ ap (level_at a) same ∙ here) in
            true≢false (sym holds ∙ ap test level ∙ fails)) n.cells names) in
            ap (λ b. times_named k (cond b n.cells [])) holds ∙ none
        | inr no_level ↦ ap (λ b. times_named k (cond b n.cells [])) no_level
      ]

  -- nor by a pending cell, if that is chosen
  waiting-unnamed : (test : ℕ → Bool) (a : Slab (NodeCells D)) (k l : ℕ) (w : Pending D) → level_at a k ≡ Some l → test l ≡ false →
      ((i : ℕ) → w.level ≡ suc i → Names a i w.cell) → times_named k (chosen_part test w.level (w.cell ∷ [])) ≡ 0
  waiting-unnamed test a k l w here fails names = by w.level refl
    where
      by : (i : ℕ) → w.level ≡ i → times_named k (chosen_part test i (w.cell ∷ [])) ≡ 0
      by zero e = refl
      by (suc i) e = elim (cases_Bool (test i)) [
        | inl holds ↦
            let other : key_of w.cell ≢ k = λ same.
            let level : i ≡ l = same_Some i l (sym (names i e).level_is ∙ ap (level_at a) same ∙ here) in
            true≢false (sym holds ∙ ap test level ∙ fails) in
            ap (λ b. times_named k (cond b (w.cell ∷ []) [])) holds ∙ named-other k w.cell other
        | inr no_level ↦ ap (λ b. times_named k (cond b (w.cell ∷ []) [])) no_level
      ]

  module _ (a : Slab (NodeCells D)) (root level : ℕ) (ws : List (Pending D)) (linked : IsLinked a root level ws) where
    chosen_cells : (ℕ → Bool) → List (Cell D)
    chosen_cells test = flat_map (chosen test) a.slots

    times-vacant : (test : ℕ → Bool) (k : ℕ) → get a k ≡ None → times_named k (chosen_cells test) ≡ 0
    unfolding chosen_cells
    times-vacant test k vacant =
        count-flat (names_key k) (chosen test) a.slots
        ∙ sum-none (λ s. times_named k (chosen test s)) refl a.slots
        (λ p. omega (arith, chosen-le test k (get a p), unnamed-vacant a root level ws linked p k vacant))

    -- a node is named by its parent alone
    times-above : (test : ℕ → Bool) (k : ℕ) → times_named k (chosen_cells test) ≤ times_named k (cells_above a k)
    unfolding chosen_cells
    times-above test k = by (parent_at a k) refl
      where
        by : (o : Option ℕ) → parent_at a k ≡ o → times_named k (flat_map (chosen test) a.slots) ≤ times_named k (cells_above a k)
        by None e =
            let none = sum-none (λ s. times_named k (chosen test s)) refl a.slots
            (λ p. omega (arith, chosen-le test k (get a p), unnamed-elsewhere a root level ws linked p k (λ q. none-some p (sym e ∙ q)))) in
            omega (arith, count-flat (names_key k) (chosen test) a.slots, none)
        by (Some p) e =
            let only = sum-only (λ s. times_named k (chosen test s)) refl a.slots p
            (λ q ne. omega (arith, chosen-le test k (get a q), unnamed-elsewhere a root level ws linked q k (λ f. ne (sym (same_Some p q (sym e ∙ f)))))) in
            let above = ap (times_named k) (above-some a k p e) in
            omega (arith, count-flat (names_key k) (chosen test) a.slots, only, above, chosen-le test k (get a p))

    root-above : times_named root (cells_above a root) ≡ 0
    root-above = ap (times_named root) (above-none a root linked.root_parent)

    above-once : (k l : ℕ) → level_at a k ≡ Some l → times_named k (cells_above a k) + times_named k (pending_nodes ws) ≤ 1
    above-once k l e = elim (cases_eq k root) [
      | inl same ↦
          let none = root-above in
          let waits = linked.root_waits_not in
          subst (λ x. times_named x (cells_above a x) + times_named x (pending_nodes ws) ≤ 1) (sym same) (omega arith)
      | inr other ↦ omega (arith, linked.named k l e other)
    ]

    vacant-past : (k : ℕ) → length a.slots ≤ k → get a k ≡ None
    vacant-past k h = get_or_past a.slots k None h

    -- the cells of a test name no node of a level that doesn't pass
    times-failed : (test : ℕ → Bool) (k l : ℕ) → level_at a k ≡ Some l → test l ≡ false → times_named k (chosen_cells test) ≡ 0
    unfolding chosen_cells
    times-failed test k l e fails =
        count-flat (names_key k) (chosen test) a.slots
        ∙ sum-none (λ s. times_named k (chosen test s)) refl a.slots
        (λ p. chosen-unnamed test a k l p (get a p) e fails
        (λ i high. subst (All (NamesChild a i p)) (sym (inner-at_inner a p i high)) (linked.children p i high)))

    -- of each level's nodes no more are named by cells above them than there are
    pub named-on_level : (l : ℕ) → sum_over (λ s. length (chosen (λ i. nat_eq i l) s)) a ≤ sum_over (node_in (λ i. nat_eq i l)) a
    unfolding chosen_cells
    named-on_level l =
        omega (
          arith,
          length-flat (chosen test) a.slots,
          upto-list (node_in test) a.slots None,
          length-few key_of (λ k. node_in test (get a k)) (length a.slots) (flat_map (chosen test) a.slots) few (λ k h. ap (node_in test) (vacant-past k h)),
        )
      where
        test : ℕ → Bool
        test = λ i. nat_eq i l

        few : (k : ℕ) → times_named k (flat_map (chosen test) a.slots) ≤ node_in test (get a k)
        few k = by (get a k) refl
          where
            by : (s : Option (NodeCells D)) → get a k ≡ s → times_named k (flat_map (chosen test) a.slots) ≤ node_in test s
            by None e = omega (arith, times-vacant test k e)
            by (Some n) e = elim (cases_Bool (test n.level)) [
              | inl holds ↦
                  let one : ◌≡◌ {A = ℕ} (cond (test n.level) 1 0) 1 = ap (λ b. cond b 1 0) holds in
                  omega (arith, one, times-above test k, above-once k n.level (ap level_of e))
              | inr fails ↦ omega (arith, times-failed test k n.level (ap level_of e) fails)
            ]

    -- the first pending cell names another node than the cells above
    pub named-and_first : (l : ℕ) (w : Pending D) (rest : List (Pending D)) → ws ≡ w ∷ rest →
        length (chosen_part (λ i. nat_eq i l) w.level (w.cell ∷ [])) + sum_over (λ s. length (chosen (λ i. nat_eq i l) s)) a ≤ sum_over (node_in (λ i. nat_eq i l)) a
    unfolding chosen_cells
    named-and_first l w rest is =
        omega (
          arith,
          length-flat (chosen test) a.slots,
          length-append first (flat_map (chosen test) a.slots),
          upto-list (node_in test) a.slots None,
          length-few key_of (λ k. node_in test (get a k)) (length a.slots) (first ++ flat_map (chosen test) a.slots) few (λ k h. ap (node_in test) (vacant-past k h)),
        )
      where
        test : ℕ → Bool
        test = λ i. nat_eq i l

        first : List (Cell D)
        first = chosen_part test w.level (w.cell ∷ [])

        names : (i : ℕ) → w.level ≡ suc i → Names a i w.cell
        names =
            let each : Pending D → Type 0 = λ v. (i : ℕ) → v.level ≡ suc i → Names a i v.cell in
            All-head each w rest (subst (All each) is linked.pending_named)

        parts : (k : ℕ) → times_named k (first ++ flat_map (chosen test) a.slots) ≡ times_named k first + times_named k (flat_map (chosen test) a.slots)
        parts k = count-append (names_key k) first (flat_map (chosen test) a.slots)

        waits : (k : ℕ) → times_named k first ≤ times_named k (pending_nodes ws)
        waits k =
            omega (
              arith,
              chosen_part-le test k w.level (w.cell ∷ []),
              count-append (names_key k) (inner_part w.level (w.cell ∷ [])) (pending_nodes rest),
              ap (λ vs. times_named k (pending_nodes vs)) is,
            )

        few : (k : ℕ) → times_named k (first ++ flat_map (chosen test) a.slots) ≤ node_in test (get a k)
        few k = by (get a k) refl
          where
            by : (s : Option (NodeCells D)) → get a k ≡ s → times_named k (first ++ flat_map (chosen test) a.slots) ≤ node_in test s
            by None e = omega (arith, parts k, times-vacant test k e, waits k, unnamed-by_pending a ws k (ap level_of e) linked.pending_named)
            by (Some n) e = elim (cases_Bool (test n.level)) [
              | inl holds ↦
                  let one : ◌≡◌ {A = ℕ} (cond (test n.level) 1 0) 1 = ap (λ b. cond b 1 0) holds in
                  omega (arith, one, parts k, times-above test k, waits k, above-once k n.level (ap level_of e))
              | inr fails ↦
                  omega (arith, parts k, times-failed test k n.level (ap level_of e) fails, waiting-unnamed test a k n.level w (ap level_of e) fails names)
            ]

    -- each node but the root is named at most once in all
    pub named-in_all : suc (sum_over (λ s. length (inner_cells_of s)) a + length (pending_nodes ws)) ≤ slab_len a
    unfolding chosen_cells
    named-in_all =
        omega (
          arith,
          length-flat (chosen test) a.slots,
          same-length,
          length-append (flat_map (chosen test) a.slots) (pending_nodes ws),
          upto-list present a.slots None,
          length-few key_of (λ k. present (get a k)) (length a.slots) cells few (λ k h. ap present (vacant-past k h)),
        )
      where
        test : ℕ → Bool
        test i = true

        present : Option (NodeCells D) → ℕ
        present s = cond (is_some s) 1 0

        -- a cell that names the root stands for its place
        top : Cell D
        top = record { number = pos root; rect = [] }

        cells : List (Cell D)
        cells = top ∷ (flat_map (chosen test) a.slots ++ pending_nodes ws)

        same-length : sum_by (λ s. length (chosen test s)) a.slots ≡ sum_by (λ s. length (inner_cells_of s)) a.slots
        same-length = sum-same (λ s. length (chosen test s)) (λ s. length (inner_cells_of s)) all-chosen a.slots

        few : (k : ℕ) → times_named k cells ≤ present (get a k)
        few k = by (get a k) refl
          where
            parts : times_named k cells ≡ times_named k (top ∷ []) + (times_named k (flat_map (chosen test) a.slots) + times_named k (pending_nodes ws))
            parts = omega (
              arith,
              count-append (names_key k) (top ∷ []) (flat_map (chosen test) a.slots ++ pending_nodes ws),
              count-append (names_key k) (flat_map (chosen test) a.slots) (pending_nodes ws),
            )

            by : (s : Option (NodeCells D)) → get a k ≡ s → times_named k cells ≤ present s
            by None e =
                let other : root ≢ k = λ same. none-some level (sym (ap level_of e) ∙ ap (level_at a) (sym same) ∙ linked.root_level) in
                let waits = unnamed-by_pending a ws k (ap level_of e) linked.pending_named in
                omega (arith, parts, times-vacant test k e, waits, named-other k top other)
            by (Some n) e = elim (cases_eq root k) [
              | inl same ↦
                  let above : times_named k (cells_above a k) ≡ 0 = subst (λ x. times_named x (cells_above a x) ≡ 0) same root-above in
                  let waits : times_named k (pending_nodes ws) ≡ 0 = subst (λ x. times_named x (pending_nodes ws) ≡ 0) same linked.root_waits_not in
                  omega (arith, parts, times-above test k, above, waits, named-one k top same)
              | inr other ↦ omega (arith, parts, times-above test k, above-once k n.level (ap level_of e), named-other k top other)
            ]
