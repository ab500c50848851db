use Rattle.std.proofs.Common.{sym}
use Rattle.rt_tree_node.proofs.Summed.{written-new}
use Rattle.rt_tree_node.proofs.access.add_node.Goals as goal

pub invariant_of-nodes : goal.invariant_of-nodes
invariant_of-nodes g c = record {
  few = c.nodes.invariant.few;
  sums = written-new c.nodes.inside.slab c.nodes.inside.sums.items c.new-key.result c.insert_reserved.result (sym c.new-key.ensures) c.insert_reserved.new.self
      c.nodes.inside.stale.items c.log.new.stale.items c.nodes.inside.is_lost c.log.new.is_lost c.insert_reserved.ensures.updates.others c.log.ensures
      c.nodes.invariant.sums;
}
