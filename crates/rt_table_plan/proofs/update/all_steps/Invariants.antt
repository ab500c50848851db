use Rattle.std.proofs.Common.{◌≡◌, map, drop}
use Rattle.std.specs.List.{filter_map}
use Rattle.rt_table_row.specs.Edits.{outcome, steps_and}
use Rattle.rt_table_row.specs.Entries.{step_of}
use Rattle.rt_table_plan.specs.Drafts.{Knows, known_of, row_of, set_all}
use Rattle.rt_table_plan.proofs.update.all_steps.Given as goal

-- the steps so far, and then those of the rows that are left
abbrev pub invariant-loop-row : goal.invariant-loop-row
invariant-loop-row g l = record {
  knows : Knows l.store.rows (known_of l.draft) (outcome l.store.rows (map step_of l.draft.steps.items));
  rest : set_all g.row.D l.settings l.store.rows (filter_map (row_of l.store.rows) l.rows)
      ≡ steps_and (map step_of l.draft.steps.items) (set_all g.row.D l.settings (outcome l.store.rows (map step_of l.draft.steps.items)) (filter_map (row_of l.store.rows) (drop l.row-index l.rows)));
}
