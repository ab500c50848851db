use Rattle.std.proofs.Common.{ℕ, Option, length, append-nil, sym, subst, falls, arith}
use Rattle.std.proofs.lemmas.Grind.{common_steps}
use Rattle.std.proofs.lemmas.List.Elements.{All-nil}
use Rattle.rt_map.specs.Written.{IsNodeWritten}
use Rattle.std.proofs.lemmas.Result.{IfOk-from_err}
use Rattle.slab.specs.Slab.{get}
use Rattle.rt_check.specs.declared.node.NodeRow.{NodeRow}
use Rattle.rt_tree_node.specs.Node.{NodeCells}
use Rattle.rt_tree_outside.specs.Outside.{noted, node_row}
use Rattle.rt_map.proofs.Written.{all-mapped-more}
use Rattle.rt_map.proofs.writing.push_nodes.Goals as goal

pub returns-in_err-push_node-clause-bytes : goal.returns-in_err-push_node-clause-bytes
returns-in_err-push_node-clause-bytes g c = IfOk-from_err _ _ c.from_residual.ensures.0

pub returns-in_err-push_node-clause-written : goal.returns-in_err-push_node-clause-written
returns-in_err-push_node-clause-written g c = IfOk-from_err _ _ c.from_residual.ensures.0

pub bounds-order-key-index : goal.bounds-order-key-index
bounds-order-key-index g c = c.loop-key-test.true

pub loop-key-init : goal.loop-key-init
loop-key-init g c = record { bytes = sym (append-nil c.args.bytes.now.items); written = All-nil IsNodeWritten }

pub loop-key-smaller : goal.loop-key-smaller
loop-key-smaller g c = falls (length c.args.order.now) c.loop-key.key-index c.loop-key-test.true

pub loop-key-preserved : goal.loop-key-preserved
loop-key-preserved g c =
    let row : ℕ → Option (NodeCells g.row.D) → NodeRow g.row.D = λ key place. node_row (noted c.args.numbers.now) key place in
    let at : ℕ → NodeRow g.row.D = λ key. row key (get c.args.tree.now.nodes key) in
    let key = c.key-item.result in
    record {
      bytes = grind (arith, common_steps);
      written = all-mapped-more IsNodeWritten at c.args.order.now c.loop-key.key-index key c.loop-key-test.true c.loop-key.invariant.written
          (subst (λ k. IsNodeWritten (at k)) c.key-item.is (subst (λ place. IsNodeWritten (row key place)) (sym c.node_at.ensures) c.in_ok-push_node.ensures.written));
    }
