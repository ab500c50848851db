use Rattle.std.proofs.Common.{rules, FitsSigned, w64, to_z-of_z, length, map, ap, ◌∙◌, falls, take_all}
use Rattle.std.proofs.lemmas.Result.{IfOk-from_err}
use Rattle.rt_tree_walk.specs.declared.searching.Row.{Row}
use Rattle.rt_live.proofs.Stepwise.{mapped-more}
use Rattle.rt_live.proofs.live.ids_of.Goals as goal

pub loop-row-init : goal.loop-row-init
loop-row-init g c = c.in_ok-ids.ensures.items

pub offset_bounds-rows-row-index : goal.offset_bounds-rows-row-index
offset_bounds-rows-row-index g c = c.loop-row.auto.row-index-end

pub bounds-rows-row-index : goal.bounds-rows-row-index
bounds-rows-row-index g c = c.loop-row-test.true

pub loop-row-smaller : goal.loop-row-smaller
loop-row-smaller g c = falls (length c.args.rows.now) c.loop-row.row-index c.loop-row-test.true

pub loop-row-preserved : goal.loop-row-preserved
loop-row-preserved g c =
    let row : Row g.row.D = c.row-item.result in
    let fits : FitsSigned w64 row.id = search rules in
    mapped-more c.args.rows.now c.loop-row.row-index row c.loop-row-test.true c.row-item.is (λ (r : Row g.row.D). r.id) c.loop-row.ids.items _ _
    c.loop-row.invariant c.in_ok-push.ensures.items (to_z-of_z fits)

pub returns : goal.returns
returns g c = c.loop-row.invariant ∙ ap (map (λ (r : Row g.row.D). r.id)) (take_all c.loop-row.row-index c.args.rows.now c.loop-row-test.false)

pub returns-in_err-ids : goal.returns-in_err-ids
returns-in_err-ids g c = IfOk-from_err _ _ c.from_residual.ensures.0

pub returns-in_err-push : goal.returns-in_err-push
returns-in_err-push g c = IfOk-from_err _ _ c.from_residual-in_err-push.ensures.0
