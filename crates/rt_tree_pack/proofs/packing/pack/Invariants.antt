use Rattle.std.proofs.Common.{length}
use Rattle.rt_tree_pack.specs.Steps.{PacksBelow}
use Rattle.rt_tree_pack.proofs.packing.pack.Given as goal

abbrev pub invariant-loop-alloc : goal.invariant-loop-alloc
invariant-loop-alloc g l = PacksBelow l.fn.tree l.tree l.fn.rows.items l.cells.items

abbrev pub decreases-loop-alloc : goal.decreases-loop-alloc
decreases-loop-alloc g l = length l.cells.items
