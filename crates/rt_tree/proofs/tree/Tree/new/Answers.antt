use Rattle.rt_tree.proofs.BareKept.{bare-kept}
use Rattle.rt_tree.proofs.tree.Tree.new.Goals as goal

pub invariant_of-result : goal.invariant_of-result
invariant_of-result g c =
    let made = c.in_ok-arena.ensures in
    bare-kept c.in_ok-arena.arena c.requires.some c.requires.few made.bare made.ids made.room made.keys made.pending_room
