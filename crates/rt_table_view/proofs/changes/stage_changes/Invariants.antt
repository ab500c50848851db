use Rattle.std.proofs.Common.{◌≡◌, ◌++◌, take}
use Rattle.std.specs.List.{flat_map}
use Rattle.rt_table_view.specs.Fates.{rows_after, changes_at, shifts_at}
use Rattle.rt_table_view.proofs.changes.stage_changes.Given as goal

abbrev pub invariant-loop-id : goal.invariant-loop-id
invariant-loop-id g l = record {
  changes : l.staged
      ≡ l.fn.staged ++ flat_map (changes_at l.view l.store.rows (rows_after l.store.rows l.fates)) (take l.id-index l.ids);
  shifts : l.shifts.items ≡ flat_map (shifts_at l.view l.store.rows (rows_after l.store.rows l.fates)) (take l.id-index l.ids);
}
