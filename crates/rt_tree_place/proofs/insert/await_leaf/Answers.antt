use Rattle.std.proofs.Common.{rules, ◌≤◌}
use Rattle.rt_tree_place.proofs.insert.await_leaf.Goals as goal

pub push_row-requires : goal.push_row-requires
push_row-requires g c = let few : g.row.D ≤ 3 = c.facts.ensures.few in search rules
