use Rattle.rt_tree_one.proofs.Filled.{filled}
use Rattle.rt_tree_one.proofs.sound_trees_are_filled.Goals as goal

pub returns : goal.returns
returns c = filled
