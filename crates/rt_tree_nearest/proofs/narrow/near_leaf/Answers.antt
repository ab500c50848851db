use Rattle.std.proofs.Common.{◌≤◌, rules}
use Rattle.slab.specs.Slab.{ContainsKey}
use Rattle.rt_tree_walk.proofs.Progress.{IsSettled, level-some}
use Rattle.rt_tree_nearest.proofs.Narrowed.{child-level}
use Rattle.rt_tree_nearest.proofs.narrow.near_leaf.Goals as goal

pub node_at-requires : goal.node_at-requires
node_at-requires g c =
    let few : g.row.D ≤ 3 = c.requires.few in
    let there : ContainsKey c.args.tree.now.nodes c.loop-height.key = level-some c.args.tree.now.nodes c.loop-height.key c.loop-height.height c.loop-height.invariant in
    search rules

pub loop-height-preserved : goal.loop-height-preserved
loop-height-preserved g c =
    let s : IsSettled c.args.tree.now = record { whole = c.requires.whole; none = c.requires.settled } in
    child-level c.args.tree.now s c.loop-height.key c.loop-height.height c.in_ok-key.key c.node_at.result.now c.node_at.ensures c.loop-height.invariant c.loop-height-test.true c.in_ok-key.ensures
