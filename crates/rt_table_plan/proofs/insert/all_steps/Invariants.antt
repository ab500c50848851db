use Rattle.std.proofs.Common.{◌≡◌, map, drop}
use Rattle.rt_table_row.specs.Arrangements.{row_values}
use Rattle.rt_table_row.specs.Edits.{outcome, put_all, steps_and}
use Rattle.rt_table_row.specs.Entries.{step_of}
use Rattle.rt_table_plan.specs.Counts.{Counts}
use Rattle.rt_table_plan.specs.Drafts.{Knows, known_of}
use Rattle.rt_table_plan.proofs.insert.all_steps.Given as goal

-- the steps so far, and then those of the lists that are left
abbrev pub invariant-loop-list : goal.invariant-loop-list
invariant-loop-list g l = record {
  knows : Knows l.store.rows (known_of l.draft) (outcome l.store.rows (map step_of l.draft.steps.items));
  counts : Counts (outcome l.store.rows (map step_of l.draft.steps.items)) l.count.largest l.count.room;
  rest : put_all g.row.D l.rule l.store.rows (map (row_values l.arrangement) l.lists)
      ≡ steps_and (map step_of l.draft.steps.items) (put_all g.row.D l.rule (outcome l.store.rows (map step_of l.draft.steps.items)) (map (row_values l.arrangement) (drop l.list-index l.lists)));
}
