-- A placement follows the rules on nested trees.
use Rattle.std.specs.Prelude.{◌≡◌, ℕ, suc, ℤ, List, [], ◌∷◌, ◌++◌, Some, None, length, reverse, All}
use Rattle.rt_box.specs.declared.interval.Interval.{Interval}
use Rattle.rt_tree_node.specs.declared.arena.Arena.{Arena}
use Rattle.rt_tree_node.specs.declared.arena.Work.{Work}
use Rattle.rt_tree_node.specs.Places.{key_of, cells_at, level_at, hull_at}
use Rattle.rt_tree_node.specs.Sound.{IsLinked}
use Rattle.rt_tree_node.specs.Whole.{IsWhole}
use Rattle.rt_tree_place.specs.NewRow.{AwaitsLeaf}
use Rattle.rt_tree_place.specs.Placement.{PlacesLast}
use Rattle.rt_tree_place.specs.Turns.{PlacesInTurn}
use Rattle.rt_tree_remove.specs.Removal.{RemovesInSteps}
use Rattle.rt_tree_rules.specs.Nested.{Row, Waiting}
use Rattle.rt_tree_rules.specs.Placing.{Work as Effort, insert_one, Settles, IsInsertion}
use Rattle.rt_tree_rules.specs.Removing.{IsRemoval}
use Rattle.rt_tree_rules.specs.Shadow.{nodes_in}
use Rattle.rt_tree_outside.specs.Outside.{outside}
use Rattle.rt_tree_obeys.specs.View.{tree_in, waiting_cells}

module _ {D : ℕ} where
  -- the nodes hang together, and each cell above the leaves has the least box around its child's cells
  pub record Stands (t : Arena D) : Type 0 where
    pub linked : IsLinked t.nodes t.root t.level t.pending.items
    pub hulls : (key l : ℕ) → level_at t.nodes key ≡ Some (suc l) →
        All (λ c. c.rect ≡ hull_at t.nodes (key_of c)) (cells_at t.nodes key)
    pub pending_hulls : All (λ w. (l : ℕ) → w.level ≡ suc l → w.cell.rect ≡ hull_at t.nodes (key_of w.cell)) t.pending.items

  -- the tree is what the rules make of it if the waiting cell is inserted into it, and so are the marks and the cells that
  -- wait; those of another insertion wait on
  pub record Obeys (old new : Arena D) (base rest : List Waiting) (marks marks1 : ℕ) (entry : Waiting) (effort : Effort) : Type 0 where
    pub waits : List Waiting
    pub spent : Effort
    pub pending : waiting_cells new ≡ base ++ reverse waits
    pub inserted : insert_one D old.capacity (tree_in old) entry record { marks = marks; waiting = rest; work = effort }
        ≡ record { tree = tree_in new; course = record { marks = marks1; waiting = waits; work = spent } }

abbrev pub PlacingObeys : Type 0
PlacingObeys = (axes : ℕ) (old new : Arena axes) (marks marks1 : ℕ) (work work1 : Work) (base rest : List Waiting) (entry : Waiting) (effort : Effort) →
    Stands old → PlacesLast old new marks marks1 work work1 → waiting_cells old ≡ base ++ reverse (entry ∷ rest) →
    Obeys old new base rest marks marks1 entry effort

-- the code counts as many placements and reinsertions as the rules; splits it counts by the nodes that they make
pub record CountsAs (work : Work) (effort : Effort) : Type 0 where
  pub placements : work.placements ≡ effort.placements
  pub reinsertions : work.reinsertions ≡ effort.reinsertions

module _ {D : ℕ} where
  -- the cell that was pending last is settled by the rules, and the others are pending still
  pub record Settled (old new : Arena D) (base : List Waiting) (entry : Waiting) (work : Work) : Type 0 where
    pub effort : Effort
    pub settles : Settles D old.capacity (tree_in old) entry (tree_in new) effort
    pub counts : CountsAs work effort
    pub pending : waiting_cells new ≡ base
    pub whole : IsWhole new
    pub capacity : new.capacity ≡ old.capacity

-- the last pending cell is placed, and each that has to be placed again because of it
abbrev pub SettlingObeys : Type 0
SettlingObeys = (axes : ℕ) (old new : Arena axes) (marks : ℕ) (work : Work) (base : List Waiting) (entry : Waiting) →
    Stands old → waiting_cells old ≡ base ++ entry ∷ [] → PlacesInTurn old (length base) new marks work →
    length new.pending.items ≡ length base →
    Settled old new base entry work

-- the tree after an insertion by the rules, with that work
pub record Inserted {axes : ℕ} (before after : Arena axes) (row : Row) (work : Work) : Type 0 where
  pub effort : Effort
  pub insertion : IsInsertion axes before.capacity (tree_in before) row (tree_in after) effort
  pub counts : CountsAs work effort
  pub whole : IsWhole after
  pub capacity : after.capacity ≡ before.capacity

-- a row that comes, step by step
abbrev pub InsertionObeys : Type 0
InsertionObeys = (axes : ℕ) (before awaiting after : Arena axes) (id : ℤ) (rect : List Interval) (marks : ℕ) (work : Work) →
    IsWhole before → before.pending.items ≡ [] → AwaitsLeaf before awaiting record { number = id; rect = rect } →
    PlacesInTurn awaiting 0 after marks work → after.pending.items ≡ [] →
    Inserted before after record { id = id; rect = rect } work

-- the nodes that are seen of an arena are those of its nested tree
abbrev pub NodesAreSeen : Type 0
NodesAreSeen = (axes : ℕ) (t : Arena axes) → IsWhole t → t.pending.items ≡ [] →
    (outside t).nodes ≡ nodes_in t.level 1 None (tree_in t).root

-- a row that goes, step by step
abbrev pub RemovalObeys : Type 0
RemovalObeys = (axes : ℕ) (before after : Arena axes) (id : ℤ) (rect : List Interval) →
    IsWhole before → before.pending.items ≡ [] → RemovesInSteps before after id rect →
    IsRemoval axes before.capacity (tree_in before) id (tree_in after)
    × IsWhole after × (after.pending.items ≡ []) × (after.capacity ≡ before.capacity)
