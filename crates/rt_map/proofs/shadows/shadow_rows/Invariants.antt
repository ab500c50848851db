use Rattle.std.proofs.Common.{◌≡◌, take, map}
use Rattle.rt_check.specs.Conditions.{leaf_cells}
use Rattle.rt_tree.specs.Lists.{row_in}
use Rattle.rt_map.proofs.shadows.shadow_rows.Given as goal

abbrev pub invariant-loop-node : goal.invariant-loop-node
invariant-loop-node g l = l.rows.items ≡ map row_in (leaf_cells (take l.node-index l.shadow.nodes))
