use Rattle.std.proofs.Common.{replicate, pos}
use Rattle.rt_tree.proofs.Fresh.{within-itself}
use Rattle.rt_tree.proofs.tree.point.Goals as goal

pub unwrap-requires : goal.unwrap-requires
unwrap-requires g c = c.new.ensures.valid.1 (within-itself (replicate g.row.D (pos 0)))
