use Rattle.std.proofs.Common.{arith}
use Rattle.rt_table_row.specs.Entries.{step_of}
use Rattle.rt_table_step.proofs.StepCounts.{auxiliary_rows_few, auxiliary_rows_more}
use Rattle.rt_table_step.proofs.room.auxiliary_rows_all.Goals as goal

pub overflow_add-count : goal.overflow_add-count
overflow_add-count g c =
    let few = auxiliary_rows_few (step_of c.step-item.result) in
    omega (arith, c.auxiliary_rows_of-count.ensures)

pub loop-step-preserved : goal.loop-step-preserved
loop-step-preserved g c =
    let few = auxiliary_rows_few (step_of c.step-item.result) in
    let more = auxiliary_rows_more step_of c.args.plan.now c.loop-step.step-index c.step-item.result (omega arith) c.step-item.is in
    record { counted = omega (arith, c.auxiliary_rows_of-count.ensures); few = omega (arith, c.auxiliary_rows_of-count.ensures) }
