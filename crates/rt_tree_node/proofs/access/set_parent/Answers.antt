use Rattle.std.proofs.Common.{rules, ◌≤◌, Contains, refl, ap}
use Rattle.rt_tree_node.specs.Sums.{total}
use Rattle.rt_tree_node.proofs.Summed.{set-even}
use Rattle.rt_tree_node.proofs.access.set_parent.Goals as goal

pub set_parent-requires : goal.set_parent-requires
set_parent-requires g c = let few : g.row.D ≤ 3 = c.nodes.invariant.few in search rules

pub invariant_of-nodes : goal.invariant_of-nodes
invariant_of-nodes g c = record {
  few = c.nodes.invariant.few;
  sums = λ known. set-even c.nodes.inside.slab c.nodes.inside.sums.items c.index.result c.index.result refl (Contains c.nodes.inside.stale.items)
      c.index_mut-node.result.now c.set_parent.new.self c.index_mut-node.ensures.value (ap (total c.nodes.inside.sums.items) c.set_parent.ensures)
      (c.nodes.invariant.sums known);
}
