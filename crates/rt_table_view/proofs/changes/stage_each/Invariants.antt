use Rattle.std.proofs.Common.{◌≡◌, ◌≤◌, ◌<◌, ℕ, map, take, length, get_or}
use Rattle.std.specs.List.{flat_map}
use Rattle.indexmap.specs.IndexSet.{spare}
use Rattle.rt_table_view.specs.declared.view.Watched.{Watched}
use Rattle.rt_table_view.specs.Watching.{IsRoomier}
use Rattle.rt_table_view.specs.Fates.{rows_after, changes_at, shifts_at}
use Rattle.rt_table_view.proofs.changes.stage_each.Given as goal

abbrev pub invariant-loop-at : goal.invariant-loop-at
invariant-loop-at g l = record {
  same : (k : ℕ) (w : Watched) → k < length l.fn.views → IsRoomier (get_or l.fn.views k w) (get_or l.views k w);
  rest : (k : ℕ) (w : Watched) → l.at ≤ k → get_or l.views k w ≡ get_or l.fn.views k w;
  changes : l.staged ≡ flat_map (λ w. flat_map (changes_at w l.store.rows (rows_after l.store.rows l.fates)) l.ids) (take l.at l.fn.views);
  shifts : (k : ℕ) (w : Watched) → k < l.at → (get_or l.views k w).shifts.items ≡ flat_map (shifts_at (get_or l.fn.views k w) l.store.rows (rows_after l.store.rows l.fates)) l.ids;
  room : (k : ℕ) (w : Watched) → k < l.at → length (get_or l.views k w).shifts.items ≤ spare (get_or l.views k w).ids;
}
