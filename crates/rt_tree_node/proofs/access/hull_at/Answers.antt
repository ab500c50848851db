use Rattle.std.proofs.Common.{rules, ◌≤◌}
use Rattle.rt_tree_node.proofs.access.hull_at.Goals as goal

pub node_at-requires : goal.node_at-requires
node_at-requires g c = let few : g.row.D ≤ 3 = c.slab_facts.ensures.axes in search rules

pub boxes-requires : goal.boxes-requires
boxes-requires g c = let few : g.row.D ≤ 3 = c.slab_facts.ensures.axes in search rules
