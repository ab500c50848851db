use Rattle.std.proofs.Common.{map, length, rules, FitsSigned, w64, to_z-of_z, ap, ◌∙◌, falls}
use Rattle.std.proofs.lemmas.List.{take_all}
use Rattle.std.proofs.lemmas.Result.{IfOk-from_err}
use Rattle.rt_table_row.specs.Edits.{Leaves}
use Rattle.rt_table_row.specs.Entries.{step_of}
use Rattle.rt_tree_walk.specs.declared.searching.Row.{Row}
use Rattle.rt_table_plan.proofs.Ids.{leaves-more}
use Rattle.rt_table_plan.proofs.delete.leave_steps.Goals as goal

pub loop-row-init : goal.loop-row-init
loop-row-init g c = ap (map step_of) c.in_ok-steps.ensures.items

pub bounds-rows-row-index : goal.bounds-rows-row-index
bounds-rows-row-index g c = c.loop-row-test.true

pub loop-row-smaller : goal.loop-row-smaller
loop-row-smaller g c = falls (length c.args.rows.now) c.loop-row.row-index c.loop-row-test.true

pub loop-row-preserved : goal.loop-row-preserved
loop-row-preserved g c =
    let row : Row g.row.D = c.row-item.result in
    let fits : FitsSigned w64 row.id = search rules in
    ap (map step_of) c.in_ok-push.ensures.items
    ∙ leaves-more step_of c.args.rows.now c.loop-row.steps.items c.loop-row.row-index row _ c.loop-row-test.true c.row-item.is (ap Leaves (to_z-of_z fits)) c.loop-row.invariant

pub returns : goal.returns
returns g c = c.loop-row.invariant ∙ ap (map (λ (row : Row g.row.D). Leaves row.id)) (take_all c.loop-row.row-index c.args.rows.now c.loop-row-test.false)

pub returns-in_err-steps : goal.returns-in_err-steps
returns-in_err-steps g c = IfOk-from_err _ _ c.from_residual.ensures.0

pub returns-in_err-push : goal.returns-in_err-push
returns-in_err-push g c = IfOk-from_err _ _ c.from_residual-in_err-push.ensures.0
