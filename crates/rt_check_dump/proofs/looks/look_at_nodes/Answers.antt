use Rattle.std.proofs.Common.{get_or, subst, arith}
use Rattle.std.specs.List.{All}
use Rattle.std.proofs.lemmas.List.{take_all}
use Rattle.std.proofs.lemmas.List.Elements.{All-more}
use Rattle.rt_check_dump.specs.InRange.{IsNodeInRange}
use Rattle.rt_check_dump.proofs.looks.look_at_nodes.Goals as goal

pub loop-node-preserved : goal.loop-node-preserved
loop-node-preserved g c =
    let here : IsNodeInRange (get_or c.args.nodes.now c.loop-node.node-index c.node-item.result) = subst IsNodeInRange c.node-item.is c.look_at_node.ensures in
    All-more IsNodeInRange c.args.nodes.now c.loop-node.node-index c.node-item.result (omega (arith, c.loop-node-test.true)) c.loop-node.invariant here

pub returns : goal.returns
returns g c =
    let whole = take_all c.loop-node.node-index c.args.nodes.now (omega (arith, c.loop-node-test.false)) in
    subst (All IsNodeInRange) whole c.loop-node.invariant
