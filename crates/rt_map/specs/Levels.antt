-- What restoring comes to (own).
use Rattle.std.specs.Prelude.{◌≡◌, ℕ, Bool, List, count_by}
use Rattle.rt_tree_node.specs.declared.arena.Arena.{Arena}
use Rattle.rt_tree_node.specs.declared.cell.Cell.{Cell}
use Rattle.rt_tree_node.specs.Places.{count_rows}
use Rattle.rt_tree_node.specs.Whole.{IsWhole, IsBranched}
use Rattle.rt_tree_node.specs.Homes.{KeepsIds}
use Rattle.rt_tree_pack.specs.declared.fault.PackFault.{PackFault}
use Rattle.rt_tree_pack.specs.declared.fault.PackFault.TheVariants.{TooMany, Repeated, Memory}
use Rattle.rt_map.specs.declared.restore_fault.RestoreFault.{RestoreFault}
use Rattle.rt_map.specs.declared.restore_fault.RestoreFault.TheVariants.{TooMany as AreTooMany, Repeated as IsRepeated, Memory as IsOutOfMemory}

-- rows that can't be packed make no tree
abbrev pub fault_of : PackFault → RestoreFault
fault_of TooMany = AreTooMany
fault_of (Repeated at) = IsRepeated
fault_of Memory = IsOutOfMemory

module _ {D : ℕ} where
  -- the tree has these rows, and no others
  pub record Restores (old new : Arena D) (rows : List (Cell D)) : Type 0 where
    pub whole : IsWhole new
    pub branched : IsBranched new
    pub pending : new.pending ≡ old.pending
    pub rows_are : (test : Cell D → Bool) → count_rows test new.nodes new.pending.items ≡ count_by test rows
    pub ids : KeepsIds old.leaves new.leaves
    pub capacity : new.capacity ≡ old.capacity
    pub room : new.nodes.capacity ≡ old.nodes.capacity
