use Rattle.rt_tree.proofs.Located.{taken}
use Rattle.rt_tree.proofs.tree.Tree.remove.Goals as goal

pub unwrap-requires : goal.unwrap-requires
unwrap-requires g c = taken c.take.result _ c.requires c.take.ensures.none
