use Rattle.std.proofs.Common.{◌≡◌, sym, ap, ◌∙◌, subst, arith, length, get_or, ◌<◌}
use Rattle.rt_bytes.specs.Bytes.{WritesPrefix}
use Rattle.rt_check_dump.specs.Dump.{node_text}
use Rattle.rt_check.specs.declared.node.NodeRow.{NodeRow}
use Rattle.rt_bytes.proofs.Writing.{WritesPrefix-part, Writes-failed}
use Rattle.rt_check_dump.proofs.dump.write_nodes.Goals as goal

pub returns-in_err-write_node : goal.returns-in_err-write_node
returns-in_err-write_node g c =
    let items = c.args.shadow.now.nodes in
    let i = c.loop-node.node-index in
    let d = c.node-item.result in
    let this : get_or items i d ≡ d = ap (λ l. get_or l i d) (sym c.nodes-node-items.ensures.value) ∙ sym c.node-item.is in
    let same : length c.nodes-node-items.result.now ≡ length items = ap length c.nodes-node-items.ensures.value in
    let within : i < length items = omega (arith, same, c.loop-node-test.true) in
    let front : WritesPrefix (g.W.ByteWriter.written c.loop-node.writer) (g.W.ByteWriter.written c.write_node.new.writer) (g.W.ByteWriter.faults c.loop-node.writer)
    (g.W.ByteWriter.faults c.write_node.new.writer) (node_text (get_or items i d)) =
    subst (λ (x : NodeRow g.row.D). WritesPrefix (g.W.ByteWriter.written c.loop-node.writer) (g.W.ByteWriter.written c.write_node.new.writer)
    (g.W.ByteWriter.faults c.loop-node.writer) (g.W.ByteWriter.faults c.write_node.new.writer) (node_text x)) (sym this) c.in_err-write_node.ensures in
    Writes-failed _ _ _ _ _ _ c.from_residual.ensures.0
    (WritesPrefix-part node_text _ _ _ _ _ _ items i d within c.loop-node.invariant front)
