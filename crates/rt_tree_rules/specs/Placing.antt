-- The choices of the R*-tree, and how a cell is inserted: the way down, what becomes of an overfull node, and a new root
-- (Beckmann, Kriegel, Schneider, Seeger 1990, sections 4.1 to 4.3; the counts own).
use Rattle.std.specs.Prelude.{ℕ, Bool, true, false, not, ◌&&◌, ◌||◌, List, [], ◌∷◌, ◌++◌, map, filter, nat_lt, nat_eq, slice_get, if◌then◌else◌, ◌≡◌, zero, suc, length, nat_le, slice_set, slice_index_or}
use Rattle.std.specs.List.{range_with_len, list_any, filter_map}
use Rattle.rt_box.specs.declared.interval.Interval.{Interval}
use Rattle.rt_box.specs.Capacity.{least_fill}
use Rattle.rt_tree_choice.specs.declared.split.Cut.{Cut}
use Rattle.rt_tree_choice.specs.Sorting.{positions}
use Rattle.rt_tree_subtree.specs.Subtree.{child_key}
use Rattle.rt_tree_choice.specs.Split.{cut_at, first_sizes, axis_key, cut_key, first_group, second_group}
use Rattle.rt_tree_choice.specs.Reinsertion.{farthest_positions}
use Rattle.rt_tree_rules.specs.Nested.{Row, Node, box, boxes, Tree, Waiting, of_level}

-- of two keys the first numbers that differ decide
abbrev pub is_less : List ℕ → List ℕ → Bool
is_less [] ys = false
is_less (x ∷ xs) [] = false
is_less (x ∷ xs) (y ∷ ys) = nat_lt x y || (nat_eq x y && is_less xs ys)

-- the one of the least key
abbrev pub least : {X : Type 0} → (X → List ℕ) → X → List X → X
least key best [] = best
least key best (x ∷ xs) = least key (if is_less (key x) (key best) then x else best) xs

-- ChooseSubtree: the position of the child that takes the box (section 4.1)
abbrev pub best_child : Bool → List (List Interval) → List Interval → ℕ
best_child above_leaves boxes new = least (child_key above_leaves boxes new) 0 (positions boxes)

-- ChooseSplitAxis: the axis of the least sum of margins (section 4.2)
abbrev pub best_axis : ℕ → ℕ → List (List Interval) → ℕ
best_axis axes capacity boxes = least (axis_key boxes capacity) 0 (range_with_len 0 axes)

-- the cuts of an axis that leave both groups filled enough
abbrev pub cuts_of : ℕ → ℕ → List Cut
cuts_of capacity axis = map (cut_at axis false) (first_sizes capacity) ++ map (cut_at axis true) (first_sizes capacity)

-- ChooseSplitIndex: the best cut of that axis (section 4.2)
abbrev pub best_cut : ℕ → ℕ → List (List Interval) → Cut
best_cut axes capacity boxes =
    let axis = best_axis axes capacity boxes in
    least (cut_key boxes) (cut_at axis false (least_fill capacity)) (cuts_of capacity axis)

-- ReInsert: the positions of the cells that stay, in their order (section 4.3)
abbrev pub near_positions : ℕ → List (List Interval) → List ℕ
near_positions capacity boxes =
    filter (λ p. not (list_any (nat_eq p) (farthest_positions boxes capacity))) (positions boxes)

-- the elements at the positions, in the order of the positions
abbrev pub picked : {X : Type 0} → List X → List ℕ → List X
picked xs ps = filter_map (slice_get xs) ps

-- how many cells were inserted, nodes split, and nodes relieved of cells that are inserted again
pub record Work : Type 0 where
  pub placements : ℕ
  pub splits : ℕ
  pub reinsertions : ℕ

-- What goes along with an insertion. Levels below `marks` are marked, none at first. A level is marked, with those below
-- it, when cells of one of its nodes are inserted again; since cells come to the levels from the lowest up, that is the
-- first time on this level. Cells wait, of which the first is inserted next. The work is that so far.
pub record Course : Type 0 where
  pub marks : ℕ
  pub waiting : List Waiting
  pub work : Work

-- what a node becomes: the node, and the nodes beside it that a split makes of it
pub record Becomes (l : ℕ) : Type 0 where
  pub node : Node l
  pub beside : List (Node l)
  pub course : Course

pub record Standing : Type 0 where
  pub tree : Tree
  pub course : Course

-- trees of that many axes, whose nodes have at most as many cells as the capacity
module _ (axes capacity : ℕ) where
  -- Split: the two groups of the best cut (section 4.2)
  abbrev pub split : (l : ℕ) → Node l → Course → Becomes l
  split l node course =
      let cut = best_cut axes capacity (boxes l node) in
      record {
        node = picked node (first_group (boxes l node) cut);
        beside = picked node (second_group (boxes l node) cut) ∷ [];
        course = record course { work = record course.work { splits = suc course.work.splits } };
      }

  -- ReInsert: the cells farthest from the centre wait, the nearest of them before the others (section 4.3, close reinsert)
  abbrev pub reinsert : (l : ℕ) → Node l → Course → Becomes l
  reinsert l node course =
      let far = picked node (farthest_positions (boxes l node) capacity) in
      record {
        node = picked node (near_positions capacity (boxes l node));
        beside = [];
        course = record {
          marks = suc l;
          waiting = map (λ e. record { level = l; entry = e }) far ++ course.waiting;
          work = record course.work { reinsertions = suc course.work.reinsertions };
        };
      }

  -- OverflowTreatment below the root: of an overfull node cells are inserted again, the first time on its level, and else it
  -- is split (section 4.3)
  abbrev pub treat : (l : ℕ) → Node l → Course → Becomes l
  treat l node course = elim (nat_le (length node) capacity) [
    | true ↦ record { node = node; beside = []; course = course }
    | false ↦ elim (nat_lt l course.marks) [ true ↦ split l node course | false ↦ reinsert l node course ]
  ]

  -- a treated child is again where it was, and a node that a split made is the last of the parent (section 4.3, Insert)
  abbrev pub rejoin : (l : ℕ) → Node (suc l) → ℕ → Becomes l → Becomes (suc l)
  rejoin l node at child =
      record { node = slice_set node at child.node ++ child.beside; beside = []; course = child.course }

  -- the cell enters the node of its level that best children lead to, as its last, and on the way back up each child is
  -- treated (sections 4.1 and 4.3, Insert)
  abbrev pub enter : (l : ℕ) → Node l → Waiting → Course → Becomes l
  enter zero node new course = record { node = node ++ of_level zero new; beside = []; course = course }
  enter (suc l) node new course = elim (nat_eq new.level (suc l)) [
    | true ↦ record { node = node ++ of_level (suc l) new; beside = []; course = course }
    | false ↦
        let at = best_child (nat_eq l 0) (boxes (suc l) node) (box new.level new.entry) in
        let below = enter l (slice_index_or node at []) new course in
        rejoin l node at (treat l below.node below.course)
  ]

  -- an overfull root is split, and a new root, a level higher, has the two halves (section 4.3, Insert)
  abbrev pub grow : (l : ℕ) → Node l → Course → Standing
  grow l root course = elim (nat_le (length root) capacity) [
    | true ↦ record { tree = record { level = l; root = root }; course = course }
    | false ↦
        let halves = split l root course in
        record { tree = record { level = suc l; root = halves.node ∷ halves.beside }; course = halves.course }
  ]

  -- the cell is inserted
  abbrev pub insert_one : Tree → Waiting → Course → Standing
  insert_one tree new course =
      let counted = record course.work { placements = suc course.work.placements } in
      let entered = enter tree.level tree.root new record course { work = counted } in
      grow tree.level entered.node entered.course

  -- the first of the waiting cells is inserted, if one waits; a number of them, one after the other
  abbrev pub place : Standing → Standing
  place s = elim s.course.waiting [ [] ↦ s | w ∷ ws ↦ insert_one s.tree w record s.course { waiting = ws } ]

  abbrev pub places : ℕ → Standing → Standing
  places zero s = s
  places (suc n) s = places n (place s)

  -- at first the cell alone waits, and no level is marked
  abbrev pub start : Tree → Waiting → Standing
  start tree new = record {
    tree = tree;
    course = record { marks = 0; waiting = new ∷ []; work = record { placements = 0; splits = 0; reinsertions = 0 } };
  }

  -- the cell is inserted, and each that has to be inserted again because of it, until none waits
  pub record Settles (old : Tree) (new : Waiting) (settled : Tree) (work : Work) : Type 0 where
    pub count : ℕ
    pub none_waits : (places count (start old new)).course.waiting ≡ []
    pub tree_is : settled ≡ (places count (start old new)).tree
    pub work_is : work ≡ (places count (start old new)).course.work

  -- InsertData: a row comes, with that work
  abbrev pub IsInsertion : Tree → Row → Tree → Work → Type 0
  IsInsertion old row new work = Settles old record { level = 0; entry = row } new work
