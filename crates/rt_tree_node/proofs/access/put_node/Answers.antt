use Rattle.rt_tree_node.proofs.Summed.{set-logged}
use Rattle.rt_tree_node.proofs.access.put_node.Goals as goal

pub invariant_of-nodes : goal.invariant_of-nodes
invariant_of-nodes g c = record {
  few = c.nodes.invariant.few;
  sums = set-logged c.nodes.inside.slab c.nodes.inside.sums.items c.args.key c.index.result c.index.ensures c.args.node
      c.nodes.inside.stale.items c.log.new.stale.items c.nodes.inside.is_lost c.log.new.is_lost c.log.ensures c.nodes.invariant.sums;
}
