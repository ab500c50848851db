-- A tree that is made of a shadow (own).
use Rattle.std.specs.Prelude.{◌≡◌, ◌≢◌, ◌⊎◌, ℕ, ◌<◌, true, length, Contains}
use Rattle.rt_check.specs.declared.node.NodeRow.{NodeRow}
use Rattle.rt_check.specs.declared.node.RawCell.{RawCell}
use Rattle.rt_check.specs.Shadow.{ShadowLists}
use Rattle.rt_check.specs.Conditions.{is_leaf, is_ordered}
use Rattle.rt_tree_node.specs.Whole.{most_rows_of_a_tree}
use Rattle.rt_tree_pack.specs.Packing.{IsFirstRepeated}
use Rattle.rt_map.specs.declared.restore_fault.RestoreFault.{RestoreFault}
use Rattle.rt_map.specs.declared.restore_fault.RestoreFault.TheVariants.{NoBox, TooMany, Repeated, Memory}
use Rattle.rt_tree.specs.Lists.{rows_of}
use Rattle.rt_map.specs.Packing.{ids, IsPackedOf}

module _ {D : ℕ} where
  -- the tree is the shadow, node by node; or it has the shadow's rows, packed
  abbrev pub IsRestoredOf : ShadowLists D → ShadowLists D → Type 0
  IsRestoredOf tree s = (tree ≡ s) ⊎ IsPackedOf tree s.capacity (rows_of s)

  -- in a cell of a node, lo is above hi on some axis
  abbrev pub HasUnordered : NodeRow D → Type 0
  HasUnordered node = (cell : RawCell D) × Contains node.cells cell × (is_ordered cell ≢ true)

  -- a leaf has such a cell
  abbrev pub HasRowWithoutBox : ShadowLists D → Type 0
  HasRowWithoutBox s = (node : NodeRow D) × Contains s.nodes node × (is_leaf node ≡ true) × HasUnordered node

  -- a fault that is said of a shadow holds of its rows; want of memory says nothing of them
  abbrev pub IsRestoreFaultOf : ShadowLists D → RestoreFault → Type 0
  IsRestoreFaultOf s NoBox = HasRowWithoutBox s
  IsRestoreFaultOf s TooMany = most_rows_of_a_tree < length (rows_of s)
  IsRestoreFaultOf s Repeated = (at : ℕ) × IsFirstRepeated (ids (rows_of s)) at
  IsRestoreFaultOf s Memory = Unit {0}
