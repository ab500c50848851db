use Rattle.rt_tree_outside.proofs.Rows.{entries-rise}
use Rattle.rt_tree_outside.proofs.laws.entries_are_by_rising_id.Goals as goal

pub returns : goal.returns
returns g c = entries-rise c.args.tree.now c.leaves_facts.ensures
