use Rattle.std.proofs.Common.{◌≡◌, ◌≤◌, List, ◌++◌, map}
use Rattle.std.specs.Vec.Iter.{into_iter_items, into_iter_len}
use Rattle.rt_table_row.specs.Edits.{Step, outcome}
use Rattle.rt_table_row.specs.Entries.{step_of}
use Rattle.rt_table_store.specs.Trees.{TakesEach}
use Rattle.rt_table_step.specs.Steps.{ApplyInTurn, inserts_all, auxiliary_rows_all}
use Rattle.rt_table_step.proofs.steps.apply.Given as goal

abbrev pub invariant-loop-step : goal.invariant-loop-step
invariant-loop-step g l = record {
  ends : outcome l.store.rows (map step_of (into_iter_items l.steps)) ≡ outcome l.fn.store.rows (map step_of l.fn.plan.items);
  apply : ApplyInTurn l.store.rows (map step_of (into_iter_items l.steps));
  room : inserts_all (map step_of (into_iter_items l.steps)) ≤ l.store.room;
  auxiliary_room : auxiliary_rows_all (map step_of (into_iter_items l.steps)) ≤ l.store.auxiliary_room;
  capacity : l.store.tree.capacity ≡ l.fn.store.tree.capacity;
  done : List Step;
  split : done ++ map step_of (into_iter_items l.steps) ≡ map step_of l.fn.plan.items;
  so_far : l.store.rows ≡ outcome l.fn.store.rows done;
  takes : TakesEach l.fn.store.rows done l.fn.store.tree l.store.tree;
}

abbrev pub decreases-loop-step : goal.decreases-loop-step
decreases-loop-step g l = into_iter_len l.steps
