use Rattle.rt_tree_place.proofs.Few.{room-for}
use Rattle.rt_tree_place.proofs.laws.room_is_enough.Goals as goal

pub returns : goal.returns
returns g c = room-for c.args.tree.now c.requires.whole c.requires.room
