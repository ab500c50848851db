use Rattle.std.proofs.Common.{length}
use Rattle.rt_tree_pack.specs.Steps.{PacksUpTo}
use Rattle.rt_tree_pack.proofs.level.pack_level.Given as goal

abbrev pub invariant-loop-left : goal.invariant-loop-left
invariant-loop-left g l = PacksUpTo l.fn.tree l.tree l.level l.cells l.left l.next.items

abbrev pub decreases-loop-left : goal.decreases-loop-left
decreases-loop-left g l = length l.left
