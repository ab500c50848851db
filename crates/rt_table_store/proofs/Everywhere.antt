-- A window without limits reaches each node of a tree.
use Rattle.std.proofs.Common.{◌≡◌, ◌≢◌, ◌⊎◌, ℕ, zero, suc, ◌+◌, ◌<◌, ◌≤◌, Bool, true, false, ◌&&◌, ◌||◌, cond, ℤ, pos, ◌≤ℤ◌, List, [], ◌∷◌, ◌++◌, length, get_or, Contains, All, Option, Some, None, is_none, arith, refl, ap, sym, ◌∙◌, subst, inl, inr, nat_eq, ne_eqb}
use Rattle.std.specs.List.{count_by}
use Rattle.std.specs.Option.{option_map, option_map_or, option_eq}
use Rattle.std.specs.Ordering.{int_eq}
use Rattle.std.proofs.lemmas.Bool.{cases_eq, cases_Bool, true≢false}
use Rattle.std.proofs.lemmas.Bool.Decides.{Decides-eqb}
use Rattle.std.proofs.lemmas.Int.{ints}
use Rattle.std.proofs.lemmas.List.{length-map}
use Rattle.std.proofs.lemmas.List.Elements.{All-tail}
use Rattle.rt_box.specs.declared.interval.Interval.{Interval}
use Rattle.rt_box.specs.Rect.{IsBox, Holds}
use Rattle.rt_box.specs.Window.{IsUnlimited, MayHold}
use Rattle.rt_box.proofs.Narrowing.{Admits-unlimited}
use Rattle.rt_check.specs.declared.node.NodeRow.{NodeRow}
use Rattle.rt_check.specs.declared.node.RawCell.{RawCell}
use Rattle.rt_check.specs.declared.problem.Problem.{Problem}
use Rattle.rt_check.specs.declared.problem.Condition.TheVariants.{HasRoot, HasPlace, NamesChild}
use Rattle.rt_check.specs.Shadow.{ShadowLists, numbers_of}
use Rattle.rt_check.specs.Conditions.{is_leaf, is_root, node_of, has_root, has_place, is_below, times_named, inner_cells, names_child, root_problems, node_problems, cell_problems}
use Rattle.rt_tree_node.proofs.Counts.{count-cons}
use Rattle.rt_tree_outside.specs.InOrder.{AreInOrder, nodes_in, cells_of_number}
use Rattle.rt_tree_walk.proofs.Reaching.{All_contained, counted-contained}
use Rattle.rt_tree_walk.proofs.Judging.{count-mapped}
use Rattle.rt_tree.specs.Lists.{IsInShape, level_of_number, box_in}
use Rattle.rt_tree.specs.Boxes.{HasBoxes}
use Rattle.rt_tree.specs.Search.{IsReachedIn}
use Rattle.rt_tree.proofs.Members.{find-one, contains-none, contains-cases}
use Rattle.rt_table_store.specs.Visiting.{Visits}
use Rattle.rt_table_store.proofs.Order.{eq_same, eq_from}
use Rattle.rt_table_store.proofs.Soundness.{append_first, append_rest, none_fails, flat_from, found_in, cell_passes}

same_place : (m n : ℕ) → pos m ≡ pos n → m ≡ n
same_place m n e = omega (arith, ints, e)

other_place : (m n : ℕ) → m ≢ n → int_eq (pos m) (pos n) ≡ false
other_place m n ne = elim (cases_Bool (int_eq (pos m) (pos n))) [
  | inl e ↦ absurd (ne (same_place m n (eq_from (pos m) (pos n) e)))
  | inr e ↦ e
]

holds_itself : (b : List Interval) → All (λ i. i.lo ≤ℤ i.hi) b → Holds b b
holds_itself [] ordered = tt
holds_itself (i ∷ b) ordered = ((omega (arith, ints), omega (arith, ints)), holds_itself b (All-tail (λ (j : Interval). j.lo ≤ℤ j.hi) i b ordered))

may_hold : (axes : ℕ) (window b : List Interval) → IsUnlimited axes window → IsBox axes b → MayHold axes window b
may_hold axes window b free is = (b, is, holds_itself b is.ordered, Admits-unlimited axes window b free is)

or_other : (a b : Bool) → (a || b) ≡ true → a ≡ false → b ≡ true
or_other true b e no_a = absurd (true≢false no_a)
or_other false b e no_a = e

and_second : (a b : Bool) → (a && b) ≡ true → b ≡ true
and_second true b e = e
and_second false b e = absurd (true≢false (sym e))

some_there : {X : Type 0} (test : X → Bool) (o : Option X) → option_map_or test o false ≡ true → (x : X) × (o ≡ Some x)
some_there test None e = absurd (true≢false (sym e))
some_there test (Some x) e = (x, refl)

module _ {D : ℕ} where
  -- ---- nodes that are numbered one after the other

  abbrev AreNumbered : ℕ → List (NodeRow D) → Type 0
  AreNumbered n nodes = (at : ℕ) (d : NodeRow D) → at < length nodes → (get_or nodes at d).number ≡ pos (at + n)

  abbrev has_number : ℤ → NodeRow D → Bool
  has_number number node = int_eq number node.number

  later : (x : NodeRow D) (nodes : List (NodeRow D)) (n : ℕ) → AreNumbered n (x ∷ nodes) → AreNumbered (suc n) nodes
  later x nodes n numbered = λ at d h. numbered (suc at) d (omega arith) ∙ ap pos (omega arith)

  other_first : (x : NodeRow D) (nodes : List (NodeRow D)) (n m : ℕ) → AreNumbered n (x ∷ nodes) → m ≢ n → ◌≡◌ {A = ℕ} (cond (has_number (pos m) x) 1 0) 0
  other_first x nodes n m numbered ne =
      let first : x.number ≡ pos n = numbered 0 x (omega arith) ∙ ap pos (omega arith) in
      ap (λ (z : ℤ). cond {A = ℕ} (int_eq (pos m) z) 1 0) first ∙ ap (λ b. cond {A = ℕ} b 1 0) (other_place m n ne)

  none_below : (nodes : List (NodeRow D)) (n m : ℕ) → AreNumbered n nodes → m < n → count_by (has_number (pos m)) nodes ≡ 0
  none_below [] n m numbered lt = refl
  none_below (x ∷ nodes) n m numbered lt =
      let here = other_first x nodes n m numbered (λ e. absurd (omega arith)) in
      omega (arith, here, count-cons (has_number (pos m)) x nodes, none_below nodes (suc n) m (later x nodes n numbered) (omega arith))

  one_at : (nodes : List (NodeRow D)) (n k m : ℕ) → AreNumbered n nodes → k < length nodes → m ≡ k + n → count_by (has_number (pos m)) nodes ≡ 1
  one_at [] n k m numbered h is = absurd (omega arith)
  one_at (x ∷ nodes) n zero m numbered h is =
      let first : x.number ≡ pos m = numbered 0 x (omega arith) ∙ ap pos (sym is) in
      let here : ◌≡◌ {A = ℕ} (cond (has_number (pos m) x) 1 0) 1 = ap (λ (z : ℤ). cond {A = ℕ} (int_eq (pos m) z) 1 0) first ∙ ap (λ b. cond {A = ℕ} b 1 0) (eq_same (pos m)) in
      omega (arith, here, count-cons (has_number (pos m)) x nodes, none_below nodes (suc n) m (later x nodes n numbered) (omega arith))
  one_at (x ∷ nodes) n (suc k) m numbered h is =
      let here = other_first x nodes n m numbered (λ e. absurd (omega arith)) in
      omega (arith, here, count-cons (has_number (pos m)) x nodes, one_at nodes (suc n) k m (later x nodes n numbered) (omega arith) (omega arith))

  -- the numbers of cells in order are no less than the first place
  placed_from : (nodes : List (NodeRow D)) (l place : ℕ) (cells : List (RawCell D)) (c : RawCell D) → AreInOrder nodes l place cells → Contains cells c →
      (p : ℕ) × (place ≤ p) × (c.number ≡ pos p)
  placed_from nodes l place [] c order h = absurd (contains-none c h)
  placed_from nodes l place (x ∷ cells) c order h = elim (contains-cases x c cells h) [
    | inl same ↦ (place, omega arith, ap (λ (y : RawCell D). y.number) (sym same) ∙ order.0)
    | inr more ↦ let r = placed_from nodes l (place + nodes_in nodes l x.number) cells c order.1 more in (r.0, omega (arith, r.1), r.2)
  ]

  level_cases : (n : NodeRow D) → (is_leaf n ≡ true) ⊎ ((l : ℕ) × (n.level ≡ suc l) × (is_leaf n ≡ false))
  level_cases n = by n.level refl
    where
      by : (m : ℕ) → n.level ≡ m → (is_leaf n ≡ true) ⊎ ((l : ℕ) × (n.level ≡ suc l) × (is_leaf n ≡ false))
      by zero e = inl (ap (λ k. nat_eq k 0) e)
      by (suc l) e = inr (l, e, ap (λ k. nat_eq k 0) e ∙ ne_eqb (suc l) 0 (omega arith))

  module _ (s : ShadowLists D) (shape : IsInShape s) where
    numbered : AreNumbered 1 s.nodes
    numbered = shape.preorder.numbered

    number_at : (node : NodeRow D) (there : Contains s.nodes node) → node.number ≡ pos (there.0 + 1)
    number_at node there = ap (λ (n : NodeRow D). n.number) (sym there.2) ∙ numbered there.0 node there.1

    once_there : (node : NodeRow D) → Contains s.nodes node → count_by (has_number node.number) s.nodes ≡ 1
    once_there node there =
        ap (λ (z : ℤ). count_by (has_number z) s.nodes) (number_at node there) ∙ one_at s.nodes 1 there.0 (there.0 + 1) numbered there.1 refl

    looked_up : (node : NodeRow D) → Contains s.nodes node → node_of s.nodes node.number ≡ Some node
    looked_up node there = find-one (has_number node.number) s.nodes node there (eq_same node.number) (omega (arith, once_there node there))

    -- ---- the conditions

    -- the problems by the first condition, by the first two, and by the first three
    abbrev first_problems : List Problem
    first_problems = root_problems s

    abbrev placing_problems : List Problem
    placing_problems = first_problems ++ node_problems HasPlace (has_place s) s.nodes

    abbrev naming_problems : List Problem
    naming_problems = placing_problems ++ cell_problems NamesChild (λ n c. is_leaf n || names_child s n c) s.nodes

    no_naming : naming_problems ≡ []
    no_naming = append_first naming_problems _ (append_first _ _ (append_first _ _ (append_first _ _ (append_first _ _ (append_first _ _ shape.sound)))))

    no_placing : placing_problems ≡ []
    no_placing = append_first placing_problems _ no_naming

    rooted : has_root s ≡ true
    rooted = elim (cases_Bool (has_root s)) [
      | inl e ↦ e
      | inr e ↦
          let none : root_problems s ≡ [] = append_first first_problems _ no_placing in
          let some = sym none ∙ ap (λ b. cond b [] (record { condition = HasRoot; node = s.root; position = 0 } ∷ [])) e in
          absurd (let wrong : ⊥ = cc in wrong)
    ]

    placed : (node : NodeRow D) → Contains s.nodes node → has_place s node ≡ true
    placed node there =
        none_fails (has_place s) (λ (n : NodeRow D). record { condition = HasPlace; node = n.number; position = 0 }) s.nodes node
        (append_rest first_problems (node_problems HasPlace (has_place s) s.nodes) no_placing) there

    named : (node : NodeRow D) (c : RawCell D) → Contains s.nodes node → Contains node.cells c → (is_leaf node || names_child s node c) ≡ true
    named node c there within =
        cell_passes NamesChild (λ n x. is_leaf n || names_child s n x) s.nodes node c
        (append_rest placing_problems (cell_problems NamesChild (λ n x. is_leaf n || names_child s n x) s.nodes) no_naming) there within

    -- ---- a node that isn't the first is named by a cell of one before it

    record IsNamed (node : NodeRow D) (at : ℕ) : Type 0 where
      above : NodeRow D
      there : Contains s.nodes above
      before : there.0 < at
      l : ℕ
      level : above.level ≡ suc l
      cell : RawCell D
      within : Contains above.cells cell
      names : cell.number ≡ node.number

    named_by : (node : NodeRow D) (there : Contains s.nodes node) → there.0 ≢ 0 → IsNamed node there.0
    named_by node there ne =
        let inner : is_root s node ≡ false =
        ap (λ (z : ℤ). int_eq z s.root) (number_at node there) ∙ ap (int_eq (pos (there.0 + 1))) shape.preorder.root_first
        ∙ other_place (there.0 + 1) 1 (λ e. ne (omega arith)) in
        let once = (Decides-eqb (times_named node.number (inner_cells s.nodes)) 1).0
        (and_second (is_below s node node.parent) (nat_eq (times_named node.number (inner_cells s.nodes)) 1)
        (or_other (is_root s node) (is_below s node node.parent && nat_eq (times_named node.number (inner_cells s.nodes)) 1) (placed node there) inner)) in
        let one = counted-contained (λ (c : RawCell D). int_eq node.number c.number) (inner_cells s.nodes) (omega (arith, once)) in
        let from = flat_from (λ (n : NodeRow D). cond (is_leaf n) [] n.cells) s.nodes one.0 one.1 in
        elim (level_cases from.0) [
          | inl leaf ↦ absurd (contains-none one.0 (subst (λ (b : Bool). Contains (cond b [] from.0.cells) one.0) leaf from.2))
          | inr high ↦
              let within : Contains from.0.cells one.0 = subst (λ (b : Bool). Contains (cond b [] from.0.cells) one.0) high.2 from.2 in
              let names : one.0.number ≡ node.number = sym (eq_from node.number one.0.number one.2) in
              let order : AreInOrder s.nodes high.0 (from.1.0 + 2) from.0.cells =
              subst (λ (n : NodeRow D). AreInOrder s.nodes high.0 (from.1.0 + 2) n.cells) from.1.2
              (shape.preorder.followed from.1.0 high.0 from.0 from.1.1 (ap (λ (n : NodeRow D). n.level) from.1.2 ∙ high.1)) in
              let place = placed_from s.nodes high.0 (from.1.0 + 2) from.0.cells one.0 order within in
              let same : place.0 ≡ there.0 + 1 = same_place place.0 (there.0 + 1) (sym place.2 ∙ names ∙ number_at node there) in
              record {
                above = from.0;
                there = from.1;
                before = omega (arith, place.1, same);
                l = high.0;
                level = high.1;
                cell = one.0;
                within = within;
                names = names;
              }
        ]

    -- ---- what is reached, and what is listed

    pub reached_listed : (window : List Interval) (number : ℤ) → IsReachedIn s window number → (node : NodeRow D) × Contains s.nodes node × (number ≡ node.number)
    reached_listed window number IsReachedIn.root =
        let root = some_there (λ (r : NodeRow D). is_none r.parent) (node_of s.nodes s.root) rooted in
        let there = found_in (has_number s.root) s.nodes root.0 root.1 in
        (root.0, there.0, eq_from s.root root.0.number there.1)
    reached_listed window number (IsReachedIn.child {number = above} l c up level within may) = by (node_of s.nodes above) refl
      where
        by : (o : Option (NodeRow D)) → node_of s.nodes above ≡ o → (node : NodeRow D) × Contains s.nodes node × (c.number ≡ node.number)
        by None e = let wrong : None ≡ Some (suc l) = sym (ap (option_map (λ (n : NodeRow D). n.level)) e) ∙ level in absurd (let none : ⊥ = cc in none)
        by (Some n) e =
            let there = found_in (has_number above) s.nodes n e in
            let high : Some n.level ≡ Some (suc l) = sym (ap (option_map (λ (m : NodeRow D). m.level)) e) ∙ level in
            let level_is : n.level ≡ suc l = cc in
            let inside : Contains n.cells c = subst (λ (o : Option (NodeRow D)). Contains (option_map_or (λ (m : NodeRow D). m.cells) o []) c) e within in
            let names = or_other (is_leaf n) (names_child s n c) (named n c there.0 inside) (ap (λ k. nat_eq k 0) level_is ∙ ne_eqb (suc l) 0 (omega arith)) in
            let child = some_there (λ (m : NodeRow D). option_eq int_eq m.parent (Some n.number)) (node_of s.nodes c.number) names in
            let child_there = found_in (has_number c.number) s.nodes child.0 child.1 in
            (child.0, child_there.0, eq_from c.number child.0.number child_there.1)

    module _ (boxes : HasBoxes s) (window : List Interval) (free : IsUnlimited D window) where
      reached : (n : ℕ) (node : NodeRow D) (there : Contains s.nodes node) → there.0 < n → IsReachedIn s window node.number
      reached zero node there lt = absurd (omega arith)
      reached (suc n) node there lt = elim (cases_eq there.0 0) [
        | inl first ↦ subst (IsReachedIn s window) (shape.preorder.root_first ∙ ap pos (omega arith) ∙ sym (number_at node there)) IsReachedIn.root
        | inr ne ↦
            let up = named_by node there ne in
            let level : level_of_number s up.above.number ≡ Some (suc up.l) = ap (option_map (λ (m : NodeRow D). m.level)) (looked_up up.above up.there) ∙ ap Some up.level in
            let within : Contains (cells_of_number s.nodes up.above.number) up.cell =
            subst (λ (o : Option (NodeRow D)). Contains (option_map_or (λ (m : NodeRow D). m.cells) o []) up.cell) (sym (looked_up up.above up.there)) up.within in
            let box = All_contained (λ (c : RawCell D). IsBox D (box_in c)) up.above.cells up.cell
            (All_contained (λ (m : NodeRow D). All (λ (c : RawCell D). IsBox D (box_in c)) m.cells) s.nodes up.above boxes up.there) up.within in
            subst (IsReachedIn s window) up.names
            (IsReachedIn.child up.l up.cell (reached n up.above up.there (omega (arith, up.before))) level within (may_hold D window (box_in up.cell) free box))
      ]

      counted_numbers : (number : ℤ) → count_by (int_eq number) (numbers_of s.nodes) ≡ count_by (has_number number) s.nodes
      counted_numbers number = count-mapped (int_eq number) (λ (n : NodeRow D). n.number) (has_number number) s.nodes (λ i d h. refl)

      -- each node is visited
      pub visits_all : Visits s window (length s.nodes)
      visits_all = record {
        numbers = numbers_of s.nodes;
        once = λ number is.
            let node = reached_listed window number is in
            counted_numbers number ∙ ap (λ (z : ℤ). count_by (has_number z) s.nodes) node.2 ∙ once_there node.0 node.1;
        only = λ number some.
            let node = counted-contained (has_number number) s.nodes (omega (arith, some, counted_numbers number)) in
            subst (IsReachedIn s window) (sym (eq_from number node.0.number node.2)) (reached (suc node.1.0) node.0 node.1 (omega arith));
        counted = sym (length-map s.nodes (λ (n : NodeRow D). n.number));
      }
