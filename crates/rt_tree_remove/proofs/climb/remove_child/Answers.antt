use Rattle.std.proofs.Common.{◌≡◌, is_some, ap, sym, ◌∙◌, rules}
use Rattle.slab.specs.Slab.{get, ContainsKey}
use Rattle.rt_tree_remove.proofs.Changed.{child-removed}
use Rattle.rt_tree_remove.proofs.climb.remove_child.Goals as goal

pub remove_node-requires : goal.remove_node-requires
remove_node-requires g c =
    let puts = c.remove_cell.ensures _ c.node_at.ensures in
    let here : ContainsKey c.remove_cell.new.nodes c.args.key = ap is_some (puts.updates.others c.args.key c.requires.apart) ∙ c.requires.here in
    search rules

pub returns-clause-node : goal.returns-clause-node
returns-clause-node g c =
    let puts = c.remove_cell.ensures _ c.node_at.ensures in
    let same : get c.args.nodes.now c.args.key ≡ get c.remove_cell.new.nodes c.args.key = sym (puts.updates.others c.args.key c.requires.apart) in
    same ∙ c.remove_node.ensures.value

pub returns-clause-change : goal.returns-clause-change
returns-clause-change g c =
    let at = c.child_position-at.result in (
      at,
      child-removed c.args.nodes.now c.remove_cell.new.nodes c.remove_node.new.nodes c.args.key c.args.parent at c.node_at.result.now c.numbers.result.now
          c.node_at.ensures c.requires.apart c.numbers.ensures.value c.child_position-at.ensures.within c.child_position-at.ensures.names
          (c.remove_cell.ensures _ c.node_at.ensures) c.remove_node.ensures.updates c.remove_node.ensures.capacity,
    )
