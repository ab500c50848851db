use Rattle.std.proofs.Common.{◌≡◌, ◌++◌, take, map}
use Rattle.rt_tree.specs.Lists.{row_in}
use Rattle.rt_map.proofs.shadows.push_rows.Given as goal

abbrev pub invariant-loop-cell : goal.invariant-loop-cell
invariant-loop-cell g l = l.rows.items ≡ l.fn.rows.items ++ map row_in (take l.cell-index l.leaf.cells)
