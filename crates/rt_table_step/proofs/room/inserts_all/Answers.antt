use Rattle.std.proofs.Common.{arith}
use Rattle.rt_table_row.specs.Entries.{step_of}
use Rattle.rt_table_step.proofs.StepCounts.{inserts_few, inserts_more}
use Rattle.rt_table_step.proofs.room.inserts_all.Goals as goal

pub overflow_add-count : goal.overflow_add-count
overflow_add-count g c =
    let few = inserts_few (step_of c.step-item.result) in
    omega (arith, c.inserts-count.ensures)

pub loop-step-preserved : goal.loop-step-preserved
loop-step-preserved g c =
    let few = inserts_few (step_of c.step-item.result) in
    let more = inserts_more step_of c.args.plan.now c.loop-step.step-index c.step-item.result (omega arith) c.step-item.is in
    record { counted = omega (arith, c.inserts-count.ensures); few = omega (arith, c.inserts-count.ensures) }
