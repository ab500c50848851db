use Rattle.std.proofs.Common.{◌≡◌, length, take, All}
use Rattle.rt_check.specs.declared.node.RawCell.{RawCell}
use Rattle.rt_map.proofs.shadows.have_axes.Given as goal

abbrev pub invariant-loop-cell : goal.invariant-loop-cell
invariant-loop-cell g l = All (λ (c : RawCell g.row.D). (length c.lo ≡ g.row.D) × (length c.hi ≡ g.row.D)) (take l.cell-index l.node.cells)
