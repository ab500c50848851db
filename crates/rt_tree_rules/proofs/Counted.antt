-- What an insertion takes: each cell that waits is inserted once, and each node that gives up cells gives up a share.
use Rattle.std.proofs.Common.{◌≡◌, inl, inr, ℕ, zero, suc, ◌+◌, ◌-◌, ◌*◌, ◌<◌, ◌≤◌, true, false, List, [], ◌∷◌, ◌++◌, map, length, get_or, drop, refl, sym, ap, ◌∙◌, subst, arith}
use Rattle.std.proofs.Math.Nat.{mul-suc}
use Rattle.std.specs.Prelude.{nat_le, nat_lt, nat_eq}
use Rattle.std.specs.List.{All}
use Rattle.std.proofs.lemmas.Bool.{cases_Bool}
use Rattle.std.proofs.lemmas.Bool.Decides.{nat_tests}
use Rattle.std.proofs.lemmas.List.{length-append, length-map, length-drop}
use Rattle.std.proofs.lemmas.List.Elements.{All-drop}
use Rattle.rt_box.specs.Capacity.{IsCapacity, reinsertion_share}
use Rattle.rt_tree_choice.specs.Sorting.{sort_by, positions}
use Rattle.rt_tree_choice.specs.Reinsertion.{farthest_positions, by_distance}
use Rattle.rt_tree_choice.proofs.Sorted.{length-sorting, sorting-within}
use Rattle.rt_tree_rules.specs.Nested.{Entry, Node, box, boxes, Tree, Waiting}
use Rattle.rt_tree_rules.specs.Placing.{best_child, picked, Course, Standing, split, reinsert, treat, enter, grow, insert_one}
use Rattle.rt_tree_rules.proofs.Picks.{length-picks}
use Rattle.rt_tree_rules.proofs.Existence.{same_boxes, within}

abbrev as_waiting : (l : ℕ) → Entry l → Waiting
as_waiting l e = record { level = l; entry = e }

module _ (axes capacity : ℕ) (valid : IsCapacity capacity) where
  -- a share of an overfull node's cells leaves it
  far_long : (l : ℕ) (node : Node l) → capacity < length node →
      length (picked node (farthest_positions (boxes l node) capacity)) ≡ reinsertion_share capacity
  far_long l node many =
      let bs = boxes l node in
      let share = reinsertion_share capacity in
      let compare = by_distance bs in
      let ps = sort_by compare (positions bs) in
      let as_many = same_boxes axes capacity valid l node in
      let long : length ps ≡ length bs = length-sorting compare bs in
      let count : length (drop (length bs - share) ps) ≡ length ps - (length bs - share) = length-drop (length bs - share) ps in
      let all : All (λ p. p < length node) ps = within axes capacity valid l node ps (sorting-within compare bs) in
      let picks = length-picks node (drop (length bs - share) ps) (All-drop (λ p. p < length node) (length bs - share) ps all) in
      omega (arith, picks, count, long, as_many, many)

  -- no cell was inserted, and with each node that gave up cells a share of cells more waits
  record Counts (old new : Course) : Type 0 where
    placements : new.work.placements ≡ old.work.placements
    waits : length new.waiting + reinsertion_share capacity * old.work.reinsertions
        ≡ length old.waiting + reinsertion_share capacity * new.work.reinsertions

  nothing : (course : Course) → Counts course course
  nothing course = record { placements = refl; waits = refl }

  counts_on : (a b c : Course) → Counts a b → Counts b c → Counts a c
  counts_on a b c one other = record { placements = other.placements ∙ one.placements; waits = omega (arith, one.waits, other.waits) }

  splits : (l : ℕ) (node : Node l) (course : Course) → Counts course (split axes capacity l node course).course
  splits l node course = record { placements = refl; waits = refl }

  reinserts : (l : ℕ) (node : Node l) (course : Course) → capacity < length node → Counts course (reinsert axes capacity l node course).course
  reinserts l node course many =
      let far = picked node (farthest_positions (boxes l node) capacity) in
      record {
        placements = refl;
        waits = omega (
          arith,
          length-append (map (as_waiting l) far) course.waiting,
          length-map far (as_waiting l),
          far_long l node many,
          mul-suc (reinsertion_share capacity) course.work.reinsertions,
        );
      }

  treats : (l : ℕ) (node : Node l) (course : Course) → Counts course (treat axes capacity l node course).course
  treats l node course = elim (cases_Bool (nat_le (length node) capacity)) [
    | inl e ↦ rw (e, treat) (nothing course)
    | inr e ↦
        let many : capacity < length node = grind (arith, nat_tests) in
        elim (cases_Bool (nat_lt l course.marks)) [
          | inl f ↦ rw (e, f, treat) (splits l node course)
          | inr f ↦ rw (e, f, treat) (reinserts l node course many)
        ]
  ]

  enters : (l : ℕ) (node : Node l) (w : Waiting) (course : Course) → Counts course (enter axes capacity l node w course).course
  enters zero node w course = nothing course
  enters (suc l) node w course = elim (cases_Bool (nat_eq w.level (suc l))) [
    | inl e ↦ rw (e, enter) (nothing course)
    | inr e ↦
        let at = best_child (nat_eq l 0) (boxes (suc l) node) (box w.level w.entry) in
        let below = enter axes capacity l (get_or node at []) w course in
        rw (e, enter) (counts_on course below.course (treat axes capacity l below.node below.course).course
        (enters l (get_or node at []) w course) (treats l below.node below.course))
  ]

  grows : (l : ℕ) (root : Node l) (course : Course) → Counts course (grow axes capacity l root course).course
  grows l root course = elim (cases_Bool (nat_le (length root) capacity)) [
    | inl e ↦ rw (e, grow) (nothing course)
    | inr e ↦ rw (e, grow) (splits l root course)
  ]

  -- one cell was inserted, and with each node that gave up cells a share of cells more waits
  pub record InsertsOne (course : Course) (s : Standing) : Type 0 where
    pub placements : s.course.work.placements ≡ suc course.work.placements
    pub waits : length s.course.waiting + reinsertion_share capacity * course.work.reinsertions
        ≡ length course.waiting + reinsertion_share capacity * s.course.work.reinsertions

  pub inserts : (tree : Tree) (w : Waiting) (course : Course) → InsertsOne course (insert_one axes capacity tree w course)
  inserts tree w course =
      let counted = record course { work = record course.work { placements = suc course.work.placements } } in
      let b = enter axes capacity tree.level tree.root w counted in
      let last = grow axes capacity tree.level b.node b.course in
      let counts = counts_on counted b.course last.course (enters tree.level tree.root w counted) (grows tree.level b.node b.course) in
      record { placements = counts.placements; waits = counts.waits }
