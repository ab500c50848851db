use Rattle.std.proofs.Common.{◌≡◌, ◌+◌, ◌≤◌, ◌++◌, length, take, vec_capacity}
use Rattle.rt_live.specs.Changes.{window_changes}
use Rattle.rt_live.proofs.plan.list_window.Given as goal

-- what is told of those so far is listed, and there is room for the rest
abbrev pub invariant-loop-row : goal.invariant-loop-row
invariant-loop-row g l = record {
  told : l.list.items ≡ l.fn.changes.items ++ window_changes (take l.row-index l.rows) l.window l.was l.is;
  room : length l.list.items + length l.rows ≤ vec_capacity l.list + l.row-index;
  capacity : vec_capacity l.fn.changes ≤ vec_capacity l.list;
}
