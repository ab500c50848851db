use Rattle.std.proofs.Common.{rules, ◌≤◌, sym, subst}
use Rattle.rt_tree_node.specs.Below.{HangTogether}
use Rattle.rt_tree_node.proofs.Summed.{AddUp-popped}
use Rattle.rt_tree_node.proofs.nodes.Nodes.learn.Goals as goal

pub mend-requires : goal.mend-requires
mend-requires g c =
    let few : g.row.D ≤ 3 = c.self.invariant.few in
    let l = c.loop-key in
    let joined : HangTogether l.self-inside.slab = subst (HangTogether {D = g.row.D}) (sym l.invariant.slab) c.requires.joined in
    let rest = AddUp-popped l.self-inside.slab l.self-inside.sums.items l.self-inside.stale.items c.pop.new.self.items c.in-Some.key c.in-Some.ensures.items l.invariant.sums in
    search rules
