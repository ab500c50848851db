-- Placings end: each that inserts cells again marks a higher level, and no level is higher than there are rows, since each
-- node below the root has two cells at least.
use Rattle.std.proofs.Common.{◌≡◌, ◌⊎◌, inl, inr, ℕ, zero, suc, ℤ, ◌+◌, ◌-◌, ◌*◌, ◌<◌, ◌≤◌, Bool, true, false, not, List, [], ◌∷◌, ◌++◌, map, length, get_or, take, drop, set, sum_by, refl, sym, ap, ◌∙◌, subst, arith}
use Rattle.std.specs.Prelude.{nat_le, nat_lt, nat_eq}
use Rattle.std.specs.List.{range_with_len, list_any, slice_get, All}
use Rattle.std.specs.Ordering.{int_eq}
use Rattle.std.specs.List.{position_or_len}
use Rattle.std.proofs.lemmas.Bool.{cases_Bool, cases_lt}
use Rattle.std.proofs.lemmas.Bool.Decides.{nat_tests}
use Rattle.std.proofs.lemmas.List.{length-append, length-take, length-drop, length-take-le, set_past, get_or_past, length-set}
use Rattle.std.proofs.lemmas.List.Sums.{sum_by-cons, sum_by-append, sum_by-set}
use Rattle.std.proofs.lemmas.List.Elements.{All-nil, All-cons, All-head, All-tail, All-append, All-set, All-take, All-drop, All-map, All-filter}
use Rattle.std.proofs.lemmas.List.FromFn.{length-range_with_len, get_or-range_with_len}
use Rattle.rt_box.specs.declared.interval.Interval.{Interval}
use Rattle.rt_box.specs.Capacity.{IsCapacity, least_fill, reinsertion_share}
use Rattle.rt_tree_choice.specs.declared.split.Cut.{Cut}
use Rattle.rt_tree_choice.specs.Sorting.{sort_by, positions}
use Rattle.rt_tree_choice.specs.Split.{cut_at, cut_key, along, first_sizes}
use Rattle.rt_tree_choice.specs.Reinsertion.{farthest_positions, by_distance}
use Rattle.rt_tree_choice.proofs.Sorted.{length-sorting, sorting-within}
use Rattle.rt_tree_rules.specs.Nested.{Row, Entry, Node, box, boxes, Tree, Waiting, if_level, of_level}
use Rattle.rt_tree_rules.specs.Placing.{is_less, least, best_axis, best_child, best_cut, cuts_of, near_positions, picked, Work, Course, Becomes, Standing, split, reinsert, treat, rejoin, enter, grow, insert_one, place, places, start, Settles, IsInsertion}
use Rattle.rt_tree_rules.specs.Removing.{Thinned, has_row, condense, take_out, shorten, SettleInTurn, IsRemoval}
use Rattle.rt_tree_rules.specs.Filled.{IsFilled, IsFilledTree}
use Rattle.rt_tree_rules.specs.Laws.{InsertionExists, RemovalExists}
use Rattle.rt_tree_rules.proofs.Chosen.{Each, each_append, each_map, each_range}
use Rattle.rt_tree_rules.proofs.Picks.{weight_of, All-picks, sum_by-picks, length-picks, sum_by-positions, parts_weigh, others_weigh, others_many}

-- ---- weights: how many rows a cell has below it

abbrev weight : (l : ℕ) → Entry l → ℕ
weight zero row = 1
weight (suc l) child = sum_by (weight l) child

abbrev load : (l : ℕ) → Node l → ℕ
load l node = sum_by (weight l) node

abbrev waits : List Waiting → ℕ
waits ws = sum_by (λ w. weight w.level w.entry) ws

waits_more : (w : Waiting) (ws : List Waiting) → waits (w ∷ ws) ≡ weight w.level w.entry + waits ws
waits_more w ws = sum_by-cons (λ x. weight x.level x.entry) w ws

waits_of : (l : ℕ) (node : Node l) (ws : List Waiting) → waits (map (λ e. record { level = l; entry = e }) node ++ ws) ≡ load l node + waits ws
waits_of l [] ws = omega arith
waits_of l (e ∷ node) ws =
    omega (arith, waits_more record { level = l; entry = e } (map (λ x. record { level = l; entry = x }) node ++ ws), waits_of l node ws, sum_by-cons (weight l) e node)

-- ---- a cell that comes to its level

if_all : (F : ℕ → Type 0) (P : (l : ℕ) → F l → Type 0) (level asked : ℕ) (x : F level) → P level x → All (P asked) (if_level F level asked x)
if_all F P zero zero x here = All-cons (P zero) x [] here (All-nil (P zero))
if_all F P zero (suc asked) x here = All-nil (P (suc asked))
if_all F P (suc level) zero x here = All-nil (P zero)
if_all F P (suc level) (suc asked) x here = if_all (λ l. F (suc l)) (λ l. P (suc l)) level asked x here

if_weighs : (F : ℕ → Type 0) (g : (l : ℕ) → F l → ℕ) (level asked : ℕ) (x : F level) → sum_by (g asked) (if_level F level asked x) ≤ g level x
if_weighs F g zero zero x = omega arith
if_weighs F g zero (suc asked) x = omega arith
if_weighs F g (suc level) zero x = omega arith
if_weighs F g (suc level) (suc asked) x = if_weighs (λ l. F (suc l)) (λ l. g (suc l)) level asked x

-- ---- the best of some has what all have

least_has : {X : Type 0} (P : X → Type 0) (key : X → List ℕ) (best : X) (xs : List X) → P best → Each P xs → P (least key best xs)
least_has P key best [] here each = here
least_has P key best (x ∷ xs) here each = elim (cases_Bool (is_less (key x) (key best))) [
  | inl e ↦ rw e (least_has P key x xs each.0 each.1)
  | inr e ↦ rw e (least_has P key best xs here each.1)
]

-- what keeps the first cells of a sorting, and the others, keeps enough of both
pub record IsRoomy (capacity : ℕ) (cut : Cut) : Type 0 where
  pub first : least_fill capacity ≤ cut.first
  pub second : cut.first + least_fill capacity ≤ capacity + 1

module _ (axes capacity : ℕ) (valid : IsCapacity capacity) where
  two : 2 ≤ least_fill capacity
  two = omega (arith, valid.0)

  room : 2 * least_fill capacity ≤ capacity + 1
  room = omega arith

  sizes_roomy : (axis : ℕ) (upper : Bool) → Each (λ k. IsRoomy capacity (cut_at axis upper k)) (first_sizes capacity)
  sizes_roomy axis upper = each_range (λ k. IsRoomy capacity (cut_at axis upper k)) (least_fill capacity) (capacity + 2 - 2 * least_fill capacity)
      (λ k a b. record { first = a; second = omega (arith, room) })

  roomy : (bs : List (List Interval)) → IsRoomy capacity (best_cut axes capacity bs)
  roomy bs =
      let axis = best_axis axes capacity bs in
      let low = least_fill capacity in
      least_has (IsRoomy capacity) (cut_key bs) (cut_at axis false low) (cuts_of capacity axis)
      record { first = omega arith; second = omega (arith, room) }
      (each_append (IsRoomy capacity) (map (cut_at axis false) (first_sizes capacity)) (map (cut_at axis true) (first_sizes capacity))
      (each_map (IsRoomy capacity) (cut_at axis false) (first_sizes capacity) (sizes_roomy axis false))
      (each_map (IsRoomy capacity) (cut_at axis true) (first_sizes capacity) (sizes_roomy axis true)))

  -- ---- what becomes of an overfull node

  abbrev Full : (l : ℕ) → Entry l → Type 0
  Full l e = IsFilled capacity l e

  abbrev FullWaiting : Waiting → Type 0
  FullWaiting w = Full w.level w.entry

  -- the marks and the waiting cells stay, or the marks rise, up to a level
  abbrev Goes : ℕ → Course → Course → Type 0
  Goes l old new = ((new.marks ≡ old.marks) × (new.waiting ≡ old.waiting)) ⊎ ((old.marks < new.marks) × (new.marks ≤ l))

  goes_on : (l : ℕ) (a b c : Course) → Goes l a b → Goes (suc l) b c → Goes (suc l) a c
  goes_on l a b c (inl same) (inl too) = inl (too.0 ∙ same.0, too.1 ∙ same.1)
  goes_on l a b c (inl same) (inr up) = inr (omega arith, up.1)
  goes_on l a b c (inr up) (inl same) = inr (omega arith, omega arith)
  goes_on l a b c (inr up) (inr on) = inr (omega arith, on.1)

  -- a node is filled if it was, or if it was overfull; so are the nodes beside it; all that waits is filled, and no row is added
  pub record IsTreated (l : ℕ) (node : Node l) (old : Course) (b : Becomes l) : Type 0 where
    pub goes : Goes (suc l) old b.course
    pub long : least_fill capacity ≤ length node → least_fill capacity ≤ length b.node
    pub below : All (Full l) b.node
    pub beside : All (Full (suc l)) b.beside
    pub waiting : All FullWaiting b.course.waiting
    pub rows : load l b.node + load (suc l) b.beside + waits b.course.waiting ≤ load l node + waits old.waiting

  pub same_boxes : (l : ℕ) (node : Node l) → length (boxes l node) ≡ length node
  same_boxes l [] = refl
  same_boxes l (e ∷ node) = ap suc (same_boxes l node)

  same_positions : (l : ℕ) (node : Node l) → positions (boxes l node) ≡ positions node
  same_positions l node = ap (λ n. range_with_len 0 n) (same_boxes l node)

  pub within : (l : ℕ) (node : Node l) (ps : List ℕ) → All (λ p. p < length (boxes l node)) ps → All (λ p. p < length node) ps
  within l node ps all = subst (λ (n : ℕ). All (λ p. p < n) ps) (same_boxes l node) all

  positions_within : (l : ℕ) (node : Node l) → All (λ p. p < length (boxes l node)) (positions (boxes l node))
  positions_within l node k d h =
      omega (arith, get_or-range_with_len 0 (length (boxes l node)) k d, length-range_with_len 0 (length (boxes l node)))

  split_treated : (l : ℕ) (node : Node l) (course : Course) → capacity < length node → All (Full l) node → All FullWaiting course.waiting →
      IsTreated l node course (split axes capacity l node course)
  split_treated l node course many all full =
      let bs = boxes l node in
      let cut = best_cut axes capacity bs in
      let compare = along bs cut.axis cut.upper in
      let ps = sort_by compare (positions bs) in
      let fit = roomy bs in
      let long : length ps ≡ length node = length-sorting compare bs ∙ same_boxes l node in
      let all_within : All (λ p. p < length node) ps = within l node ps (sorting-within compare bs) in
      let one : length (picked node (take cut.first ps)) ≡ cut.first
      = length-picks node (take cut.first ps) (All-take (λ p. p < length node) cut.first ps all_within)
      ∙ length-take-le cut.first ps (omega (arith, fit.first, fit.second)) in
      let other : length (picked node (drop cut.first ps)) ≡ length ps - cut.first
      = length-picks node (drop cut.first ps) (All-drop (λ p. p < length node) cut.first ps all_within) ∙ length-drop cut.first ps in
      let weighs = parts_weigh (weight l) node compare cut.first (positions bs) (same_positions l node) in
      let second = sum_by-cons (weight (suc l)) (picked node (drop cut.first ps)) [] in
      record {
        goes = inl (refl, refl);
        long = λ h. omega (arith, one, fit.first);
        below = All-picks (Full l) node (take cut.first ps) all;
        beside = All-cons (Full (suc l)) (picked node (drop cut.first ps)) []
            (omega (arith, other, long, fit.second), All-picks (Full l) node (drop cut.first ps) all) (All-nil (Full (suc l)));
        waiting = full;
        rows = omega (arith, weighs, second);
      }

  reinsert_treated : (l : ℕ) (node : Node l) (course : Course) → capacity < length node → course.marks ≤ l → All (Full l) node →
      All FullWaiting course.waiting → IsTreated l node course (reinsert axes capacity l node course)
  reinsert_treated l node course many low all full =
      let bs = boxes l node in
      let share = reinsertion_share capacity in
      let compare = by_distance bs in
      let ps = sort_by compare (positions bs) in
      let far = farthest_positions bs capacity in
      let near = near_positions capacity bs in
      let as_many = same_boxes l node in
      let count : length far ≡ length ps - (length bs - share) = length-drop (length bs - share) ps in
      let long : length ps ≡ length bs = length-sorting compare bs in
      let left = others_many far 0 (length bs) in
      let near_within = All-filter (λ p. not (list_any (nat_eq p) far)) (λ p. p < length bs) (positions bs) (positions_within l node) in
      let stay : length (picked node near) ≡ length near = length-picks node near (within l node near near_within) in
      let g = λ (p : ℕ). weight_of (weight l) (slice_get node p) in
      let weighs : sum_by g near + sum_by g far ≤ sum_by g (positions bs) = others_weigh g compare (length bs - share) (positions bs) in
      let whole : sum_by g (positions bs) ≡ load l node = ap (λ qs. sum_by g qs) (same_positions l node) ∙ sum_by-positions (weight l) node in
      let near_is : load l (picked node near) ≡ sum_by g near = sum_by-picks (weight l) node near in
      let far_is : load l (picked node far) ≡ sum_by g far = sum_by-picks (weight l) node far in
      let now = waits_of l (picked node far) course.waiting in
      record {
        goes = inr (omega arith, omega arith);
        long = λ h. omega (arith, stay, left, count, long, as_many, many);
        below = All-picks (Full l) node near all;
        beside = All-nil (Full (suc l));
        waiting = All-append FullWaiting (map (λ e. record { level = l; entry = e }) (picked node far)) course.waiting
            (All-map FullWaiting (λ e. record { level = l; entry = e }) (picked node far) (All-picks (Full l) node far all)) full;
        rows = omega (arith, weighs, whole, near_is, far_is, now);
      }

  treated : (l : ℕ) (node : Node l) (course : Course) → All (Full l) node → All FullWaiting course.waiting →
      IsTreated l node course (treat axes capacity l node course)
  treated l node course all full = elim (cases_Bool (nat_le (length node) capacity)) [
    | inl e ↦ rw (e, treat) record {
      goes = inl (refl, refl);
      long = λ h. h;
      below = all;
      beside = All-nil (Full (suc l));
      waiting = full;
      rows = omega arith;
    }
    | inr e ↦
        let many : capacity < length node = grind (arith, nat_tests) in
        elim (cases_Bool (nat_lt l course.marks)) [
          | inl f ↦ rw (e, f, treat) (split_treated l node course many all full)
          | inr f ↦ let low : course.marks ≤ l = grind (arith, nat_tests) in rw (e, f, treat) (reinsert_treated l node course many low all full)
        ]
  ]

  -- ---- the way down and up

  pub record IsEntered (l : ℕ) (node : Node l) (w : Waiting) (old : Course) (b : Becomes l) : Type 0 where
    pub goes : Goes l old b.course
    pub longer : length node ≤ length b.node
    pub below : All (Full l) b.node
    pub waiting : All FullWaiting b.course.waiting
    pub rows : load l b.node + waits b.course.waiting ≤ load l node + weight w.level w.entry + waits old.waiting

  appended : (l : ℕ) (node : Node l) (w : Waiting) (course : Course) → All (Full l) node → FullWaiting w → All FullWaiting course.waiting →
      IsEntered l node w course record { node = node ++ of_level l w; beside = []; course = course }
  appended l node w course all comes full = record {
    goes = inl (refl, refl);
    longer = omega (arith, length-append node (of_level l w));
    below = All-append (Full l) node (of_level l w) all (if_all Entry Full w.level l w.entry comes);
    waiting = full;
    rows = omega (arith, sum_by-append (weight l) node (of_level l w), if_weighs Entry weight w.level l w.entry);
  }

  child_full : (l : ℕ) (node : Node (suc l)) (at : ℕ) → All (Full (suc l)) node → All (Full l) (get_or node at [])
  child_full l node at all = elim (cases_lt at (length node)) [
    | inl less ↦ (all at [] less).1
    | inr past ↦ subst (λ (n : Node l). All (Full l) n) (sym (get_or_past node at [] past)) (All-nil (Full l))
  ]

  rejoined : (l : ℕ) (node : Node (suc l)) (at : ℕ) (w : Waiting) (old : Course) (b : Becomes l) (t : Becomes l) → All (Full (suc l)) node →
      IsEntered l (get_or node at []) w old b → IsTreated l b.node b.course t → IsEntered (suc l) node w old (rejoin axes capacity l node at t)
  rejoined l node at w old b t all entered treated = record {
    goes = goes_on l old b.course t.course entered.goes treated.goes;
    longer = omega (arith, length-append (set node at t.node) t.beside, length-set node at t.node);
    below = All-append (Full (suc l)) (set node at t.node) t.beside stays treated.beside;
    waiting = treated.waiting;
    rows = elim (cases_lt at (length node)) [
      | inl less ↦ omega (arith, sum_by-append (weight (suc l)) (set node at t.node) t.beside, sum_by-set (weight (suc l)) node at t.node [] less, entered.rows, treated.rows)
      | inr past ↦
          let none : load l (get_or node at []) ≡ 0 = ap (λ (n : Node l). load l n) (get_or_past node at [] past) in
          let same : load (suc l) (set node at t.node) ≡ load (suc l) node = ap (λ (n : Node (suc l)). load (suc l) n) (set_past node at t.node past) in
          omega (arith, sum_by-append (weight (suc l)) (set node at t.node) t.beside, same, none, entered.rows, treated.rows)
    ];
  }
    where
      stays : All (Full (suc l)) (set node at t.node)
      stays = elim (cases_lt at (length node)) [
        | inl less ↦ All-set (Full (suc l)) node at t.node
            (treated.long (omega (arith, (all at [] less).0, entered.longer)), treated.below) all
        | inr past ↦ subst (λ (n : Node (suc l)). All (Full (suc l)) n) (sym (set_past node at t.node past)) all
      ]

  entered : (l : ℕ) (node : Node l) (w : Waiting) (course : Course) → All (Full l) node → FullWaiting w → All FullWaiting course.waiting →
      IsEntered l node w course (enter axes capacity l node w course)
  entered zero node w course all comes full = appended zero node w course all comes full
  entered (suc l) node w course all comes full = elim (cases_Bool (nat_eq w.level (suc l))) [
    | inl e ↦ rw (e, enter) (appended (suc l) node w course all comes full)
    | inr e ↦
        let at = best_child (nat_eq l 0) (boxes (suc l) node) (box w.level w.entry) in
        let down = entered l (get_or node at []) w course (child_full l node at all) comes full in
        let below = enter axes capacity l (get_or node at []) w course in
        rw (e, enter) (rejoined l node at w course below (treat axes capacity l below.node below.course) all down
        (treated l below.node below.course down.below down.waiting))
  ]

  -- ---- one placing

  module _ (low : ℕ) (some : 1 ≤ low) (few : low ≤ 2) where
    -- filled, with that many cells in a root above the leaves at least
    pub record IsFull (tree : Tree) : Type 0 where
      pub below : All (Full tree.level) tree.root
      pub root : 0 < tree.level → low ≤ length tree.root

    -- no more rows than these are in the tree and wait
    pub record IsSteady (rows : ℕ) (s : Standing) : Type 0 where
      pub tree : IsFull s.tree
      pub waiting : All FullWaiting s.course.waiting
      pub weighs : load s.tree.level s.tree.root + waits s.course.waiting ≤ rows
      pub marks : s.course.marks ≤ s.tree.level

    -- steady, with the marks and the waiting cells that it had
    pub record IsGrown (rows : ℕ) (course : Course) (s : Standing) : Type 0 where
      pub steady : IsSteady rows s
      pub marks : s.course.marks ≡ course.marks
      pub waiting : s.course.waiting ≡ course.waiting

    grown : (rows l : ℕ) (root : Node l) (course : Course) → All (Full l) root → (0 < l → low ≤ length root) → All FullWaiting course.waiting →
        load l root + waits course.waiting ≤ rows → course.marks ≤ l → IsGrown rows course (grow axes capacity l root course)
    grown rows l root course all long full weighs marks = elim (cases_Bool (nat_le (length root) capacity)) [
      | inl e ↦ rw (e, grow) record {
        steady = record { tree = record { below = all; root = long }; waiting = full; weighs = weighs; marks = marks };
        marks = refl;
        waiting = refl;
      }
      | inr e ↦
          let many : capacity < length root = grind (arith, nat_tests) in
          let halves = split axes capacity l root course in
          let t = split_treated l root course many all full in
          let sum = sum_by-cons (weight (suc l)) halves.node halves.beside in
          rw (e, grow) record {
            steady = record {
              tree = record {
                below = All-cons (Full (suc l)) halves.node halves.beside (t.long (long_enough many), t.below) t.beside;
                root = λ h. omega arith;
              };
              waiting = full;
              weighs = omega (arith, sum, t.rows, weighs);
              marks = omega arith;
            };
            marks = refl;
            waiting = refl;
          }
    ]
      where
        long_enough : capacity < length root → least_fill capacity ≤ length root
        long_enough many = omega arith

    -- the first cell no longer waits, and no level is marked; or a level is marked
    abbrev Advances : Course → List Waiting → Course → Type 0
    Advances old ws new = ((new.marks ≡ old.marks) × (new.waiting ≡ ws)) ⊎ (old.marks < new.marks)

    inserted : (rows : ℕ) (tree : Tree) (w : Waiting) (course : Course) → IsFull tree → FullWaiting w → All FullWaiting course.waiting →
        load tree.level tree.root + weight w.level w.entry + waits course.waiting ≤ rows → course.marks ≤ tree.level →
        IsSteady rows (insert_one axes capacity tree w course) × Advances course course.waiting (insert_one axes capacity tree w course).course
    inserted rows tree w course is comes full weighs marks =
        let counted = record course { work = record course.work { placements = suc course.work.placements } } in
        let down = entered tree.level tree.root w counted is.below comes full in
        let b = enter axes capacity tree.level tree.root w counted in
        let g = grown rows tree.level b.node b.course down.below (λ h. long_still (is.root h) down.longer) down.waiting
        (omega (arith, down.rows, weighs)) (marked counted b.course tree.level down.goes marks) in
        (g.steady, advanced counted b.course (grow axes capacity tree.level b.node b.course).course tree.level down.goes g.marks g.waiting)
      where
        long_still : {n m : ℕ} → low ≤ n → n ≤ m → low ≤ m
        long_still a b = omega arith

        marked : (old new : Course) (l : ℕ) → Goes l old new → old.marks ≤ l → new.marks ≤ l
        marked old new l (inl same) less = omega (arith, same.0)
        marked old new l (inr up) less = up.1

        advanced : (old new last : Course) (l : ℕ) → Goes l old new → last.marks ≡ new.marks → last.waiting ≡ new.waiting →
            ((last.marks ≡ old.marks) × (last.waiting ≡ old.waiting)) ⊎ (old.marks < last.marks)
        advanced old new last l (inl same) is are = inl (is ∙ same.0, are ∙ same.1)
        advanced old new last l (inr up) is are = inr (omega (arith, up.0))

    placed : (rows : ℕ) (s : Standing) (w : Waiting) (ws : List Waiting) → s.course.waiting ≡ w ∷ ws → IsSteady rows s →
        IsSteady rows (place axes capacity s) × Advances s.course ws (place axes capacity s).course
    placed rows s w ws is steady =
        let all : All FullWaiting (w ∷ ws) = subst (λ xs. All FullWaiting xs) is steady.waiting in
        let sum : waits s.course.waiting ≡ weight w.level w.entry + waits ws = ap waits is ∙ waits_more w ws in
        rw is (inserted rows s.tree w record s.course { waiting = ws } steady.tree (All-head FullWaiting w ws all) (All-tail FullWaiting w ws all)
        (omega (arith, sum, steady.weighs)) steady.marks)

    -- ---- no level is higher than there are rows

    heavy : (l : ℕ) (e : Entry l) → Full l e → l + 1 ≤ weight l e
    heavy zero row full = omega arith
    heavy (suc l) [] full = absurd (omega (arith, full.0, two))
    heavy (suc l) (x ∷ []) full = absurd (omega (arith, full.0, two))
    heavy (suc l) (x ∷ y ∷ node) full =
        let one = heavy l x (All-head (Full l) x (y ∷ node) full.1) in
        let other = heavy l y (All-head (Full l) y node (All-tail (Full l) x (y ∷ node) full.1)) in
        omega (arith, one, other, sum_by-cons (weight l) x (y ∷ node), sum_by-cons (weight l) y node)

    level_below : (l : ℕ) (root : Node l) → All (Full l) root → (0 < l → low ≤ length root) → l ≤ load l root
    level_below zero root all long = omega arith
    level_below (suc l) [] all long = absurd (omega (arith, long (omega arith), some))
    level_below (suc l) (x ∷ root) all long =
        omega (arith, heavy (suc l) x (All-head (Full (suc l)) x root all), sum_by-cons (weight (suc l)) x root)

    marks_below : (rows : ℕ) (s : Standing) → IsSteady rows s → s.course.marks ≤ rows
    marks_below rows s steady =
        let low_level = level_below s.tree.level s.tree.root steady.tree.below steady.tree.root in
        omega (arith, steady.marks, steady.weighs, low_level)

    -- ---- so placings end

    pub record Ends (rows : ℕ) (s : Standing) : Type 0 where
      pub count : ℕ
      pub none : (places axes capacity count s).course.waiting ≡ []
      pub steady : IsSteady rows (places axes capacity count s)

    by_waiting : (rows high : ℕ) → ((t : Standing) → IsSteady rows t → rows + 1 ≤ t.course.marks + high → Ends rows t) →
        (ws : List Waiting) (s : Standing) → s.course.waiting ≡ ws → IsSteady rows s → rows ≤ s.course.marks + high → Ends rows s
    by_waiting rows high higher [] s is steady left = record { count = 0; none = is; steady = steady }
    by_waiting rows high higher (w ∷ ws) s is steady left =
        let next = placed rows s w ws is steady in
        let rest : Ends rows (place axes capacity s) = elim next.1 [
          | inl same ↦ by_waiting rows high higher ws (place axes capacity s) same.1 next.0 (omega (arith, same.0))
          | inr up ↦ higher (place axes capacity s) next.0 (omega (arith, up))
        ] in
        record { count = suc rest.count; none = rest.none; steady = rest.steady }

    ends : (rows high : ℕ) (s : Standing) → IsSteady rows s → rows ≤ s.course.marks + high → Ends rows s
    ends rows zero s steady left =
        by_waiting rows 0 (λ t is h. absurd (omega (arith, marks_below rows t is))) s.course.waiting s refl steady left
    ends rows (suc high) s steady left =
        by_waiting rows (suc high) (λ t is h. ends rows high t is (omega arith)) s.course.waiting s refl steady left

    abbrev SettlesSomehow : Tree → Waiting → Type 0
    SettlesSomehow old w = (new : Tree) × (work : Work) × Settles axes capacity old w new work × IsFull new

    settles : (old : Tree) (w : Waiting) → IsFull old → FullWaiting w → SettlesSomehow old w
    settles old w is comes =
        let s = start axes capacity old w in
        let rows = load old.level old.root + waits (w ∷ []) in
        let end = ends rows rows s
        record { tree = is; waiting = All-cons FullWaiting w [] comes (All-nil FullWaiting); weighs = omega arith; marks = omega arith }
        (omega arith) in
        let last = places axes capacity end.count s in
        (last.tree, last.course.work, record { count = end.count; none_waits = end.none; tree_is = refl; work_is = refl }, end.steady.tree)

    in_turn : (ws : List Waiting) (old : Tree) → IsFull old → All FullWaiting ws → (new : Tree) × SettleInTurn axes capacity old ws new × IsFull new
    in_turn [] old is full = (old, refl, is)
    in_turn (w ∷ ws) old is full =
        let first = settles old w is (All-head FullWaiting w ws full) in
        let rest = in_turn ws first.0 first.3 (All-tail FullWaiting w ws full) in
        (rest.0, (first.0, first.1, first.2, rest.1), rest.2)

  -- ---- a row that goes

  pub record IsThinned (l : ℕ) (node : Node l) (t : Thinned l) : Type 0 where
    pub below : All (Full l) t.node
    pub orphans : All FullWaiting t.orphans
    pub long : 0 < l → length node ≤ length t.node + 1

  condensed : (l : ℕ) (node : Node (suc l)) (at : ℕ) (child : Thinned l) → All (Full (suc l)) node → IsThinned l (get_or node at []) child →
      IsThinned (suc l) node (condense capacity l node at child)
  condensed l node at child all thinned = elim (cases_Bool (nat_lt (length child.node) (least_fill capacity))) [
    | inl e ↦ rw (e, condense) record {
      below = All-append (Full (suc l)) (take at node) (drop (suc at) node) (All-take (Full (suc l)) at node all) (All-drop (Full (suc l)) (suc at) node all);
      orphans = All-append FullWaiting child.orphans (map (λ e. record { level = l; entry = e }) child.node) thinned.orphans
          (All-map FullWaiting (λ e. record { level = l; entry = e }) child.node thinned.below);
      long = λ h. omega (arith, length-append (take at node) (drop (suc at) node), length-take at node, length-drop (suc at) node);
    }
    | inr e ↦
        let enough : least_fill capacity ≤ length child.node = grind (arith, nat_tests) in
        rw (e, condense) record {
          below = All-set (Full (suc l)) node at child.node (enough, thinned.below) all;
          orphans = thinned.orphans;
          long = λ h. omega (arith, length-set node at child.node);
        }
  ]

  thinned : (l : ℕ) (id : ℤ) (node : Node l) → All (Full l) node → IsThinned l node (take_out capacity l id node)
  thinned zero id node all = record {
    below = All-filter (λ row. not (int_eq id row.id)) (Full zero) node all;
    orphans = All-nil FullWaiting;
    long = λ h. absurd (omega arith);
  }
  thinned (suc l) id node all =
      let at = position_or_len (has_row (suc l) id) node in
      condensed l node at (take_out capacity l id (get_or node at [])) all (thinned l id (get_or node at []) (child_full l node at all))

  shortened : (l : ℕ) (root : Node l) → All (Full l) root → (0 < l → 1 ≤ length root) → IsFilledTree capacity (shorten l root)
  shortened zero root all long = record { below = all; root = λ h. absurd (omega arith) }
  shortened (suc l) [] all long = absurd (omega (arith, long (omega arith)))
  shortened (suc l) (child ∷ []) all long =
      let is = All-head (Full (suc l)) child [] all in
      record { below = is.1; root = λ h. omega (arith, is.0, two) }
  shortened (suc l) (child ∷ other ∷ children) all long = record { below = all; root = λ h. omega arith }

  insertion_at : (old : Tree) (row : Row) → IsFilledTree capacity old →
      (new : Tree) × (work : Work) × IsInsertion axes capacity old row new work × IsFilledTree capacity new
  insertion_at old row is =
      let end = settles 2 (omega arith) (omega arith) old record { level = 0; entry = row } record { below = is.below; root = is.root } tt in
      (end.0, end.1, end.2, record { below = end.3.below; root = end.3.root })

  removal_at : (old : Tree) (id : ℤ) → IsFilledTree capacity old → (new : Tree) × IsRemoval axes capacity old id new × IsFilledTree capacity new
  removal_at old id is =
      let thin = take_out capacity old.level id old.root in
      let t = thinned old.level id old.root is.below in
      let end = in_turn 1 (omega arith) (omega arith) thin.orphans record { level = old.level; root = thin.node }
      record { below = t.below; root = λ h. omega (arith, t.long h, is.root h) } t.orphans in
      (shorten end.0.level end.0.root, record { settled = end.0; settle = end.1; shortened = refl }, shortened end.0.level end.0.root end.2.below end.2.root)

pub insertion_somehow : InsertionExists
insertion_somehow axes capacity old row valid is = insertion_at axes capacity valid old row is

pub removal_somehow : RemovalExists
removal_somehow axes capacity old id valid is = removal_at axes capacity valid old id is
