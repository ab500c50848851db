use Rattle.rt_tree_place.proofs.Few.{high-level, few-levels}
use Rattle.rt_tree_place.proofs.laws.levels_are_few.Goals as goal

pub returns-clause-powers : goal.returns-clause-powers
returns-clause-powers g c = high-level c.args.tree.now c.requires

pub returns-clause-doubles : goal.returns-clause-doubles
returns-clause-doubles g c = few-levels c.args.tree.now c.requires
