use Rattle.std.proofs.Common.{◌≡◌, ◌≤◌, map, take}
use Rattle.rt_table_row.specs.Entries.{step_of}
use Rattle.rt_table_step.specs.Steps.{inserts_all}
use Rattle.rt_table_step.proofs.room.inserts_all.Given as goal

abbrev pub invariant-loop-step : goal.invariant-loop-step
invariant-loop-step g l = record {
  counted : l.count ≡ inserts_all (map step_of (take l.step-index l.plan));
  few : l.count ≤ l.step-index;
}
