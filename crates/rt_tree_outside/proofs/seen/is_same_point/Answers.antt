use Rattle.std.proofs.lemmas.Bool.Decides.{Decides-int_eq}
use Rattle.std.proofs.lemmas.Slice.Eq.{slice_eq-Decides}
use Rattle.rt_tree_outside.proofs.seen.is_same_point.Goals as goal

pub returns-clause-same : goal.returns-clause-same
returns-clause-same g c = (slice_eq-Decides Decides-int_eq c.args.point.now c.args.other.now c.eq.result c.eq.ensures).0

pub returns-clause-all : goal.returns-clause-all
returns-clause-all g c = (slice_eq-Decides Decides-int_eq c.args.point.now c.args.other.now c.eq.result c.eq.ensures).1
