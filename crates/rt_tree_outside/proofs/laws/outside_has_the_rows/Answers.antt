use Rattle.rt_tree_outside.proofs.Rows.{outside-rows}
use Rattle.rt_tree_outside.proofs.laws.outside_has_the_rows.Goals as goal

pub returns : goal.returns
returns g c = outside-rows c.args.tree.now (record { whole = c.requires.whole; none = c.requires.settled })
