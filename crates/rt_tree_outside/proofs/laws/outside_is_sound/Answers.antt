use Rattle.rt_tree_outside.proofs.Flawless.{outside-sound}
use Rattle.rt_tree_outside.proofs.laws.outside_is_sound.Goals as goal

pub returns : goal.returns
returns g c = outside-sound c.args.tree.now (record { whole = c.requires.whole; none = c.requires.settled }) c.requires.branched
