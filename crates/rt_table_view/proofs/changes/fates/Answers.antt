use Rattle.std.proofs.Common.{arith, sym, ap, ◌∙◌}
use Rattle.std.specs.Ordering.{int_cmp}
use Rattle.std.specs.Option.{unwrap_or}
use Rattle.std.specs.BTreeMap.{get}
use Rattle.rt_table_row.specs.Rows.{row_at}
use Rattle.rt_table_row.specs.Entries.{step_of}
use Rattle.rt_table_view.specs.Fates.{fate_of}
use Rattle.rt_table_view.proofs.Fates.{row_at-after_step, outcome_more}
use Rattle.rt_table_view.proofs.changes.fates.Goals as goal

pub loop-step-preserved : goal.loop-step-preserved
loop-step-preserved g c = λ rows q.
    ap (λ now. row_at now q) (outcome_more step_of rows c.args.plan.now c.loop-step.step-index c.step-item.result (omega arith) c.step-item.is)
    ∙ row_at-after_step _ (step_of c.step-item.result) q (fate_of (get int_cmp c.loop-step.rows q)) (row_at rows q) (c.loop-step.invariant rows q)
    ∙ ap (λ (f : _). unwrap_or f (row_at rows q)) (sym (c.in_ok-insert_fates.ensures q))
