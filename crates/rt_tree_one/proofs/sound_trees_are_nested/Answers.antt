use Rattle.rt_tree_one.proofs.Nested.{nested}
use Rattle.rt_tree_one.proofs.sound_trees_are_nested.Goals as goal

pub returns : goal.returns
returns c = nested
