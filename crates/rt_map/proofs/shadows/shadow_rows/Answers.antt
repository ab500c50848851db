use Rattle.std.proofs.Common.{List, Contains, eq-eqb, sym, subst}
use Rattle.std.proofs.lemmas.List.Elements.{Contains-get_or}
use Rattle.rt_check.specs.declared.node.NodeRow.{NodeRow}
use Rattle.rt_map.specs.RestoringInside.{LacksRows}
use Rattle.rt_map.proofs.Faults.{err-of}
use Rattle.rt_map.proofs.FromShadow.{lack-listed}
use Rattle.std.proofs.lemmas.Result.{IfOk-from_err}
use Rattle.rt_map.proofs.shadows.shadow_rows.Goals as goal

pub returns-in_err-push_rows-clause-fault : goal.returns-in_err-push_rows-clause-fault
returns-in_err-push_rows-clause-fault g c =
    let nodes = c.nodes-node-items.result.now in
    let node = c.node-item.result in
    let among : Contains nodes node = subst (Contains nodes) (sym c.node-item.is) (Contains-get_or nodes c.loop-node.node-index node c.loop-node-test.true) in
    let here : Contains c.args.shadow.now.nodes node = subst (λ (ns : List (NodeRow g.row.D)). Contains ns node) c.nodes-node-items.ensures.value among in
    err-of c.from_residual-in_err-push_rows.result c.in_err-push_rows.field-0.0 (LacksRows c.args.shadow.now) c.from_residual-in_err-push_rows.ensures.1
    (lack-listed c.args.shadow.now node c.in_err-push_rows.field-0.0 here (eq-eqb node.level 0 c.if-node-eq0.true) c.in_err-push_rows.ensures.fault)

pub returns-in_err-rows-clause-rows : goal.returns-in_err-rows-clause-rows
returns-in_err-rows-clause-rows g c = IfOk-from_err _ _ c.from_residual.ensures.0

pub returns-in_err-push_rows-clause-rows : goal.returns-in_err-push_rows-clause-rows
returns-in_err-push_rows-clause-rows g c = IfOk-from_err _ _ c.from_residual-in_err-push_rows.ensures.0
