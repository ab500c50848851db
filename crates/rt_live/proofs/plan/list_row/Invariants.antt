use Rattle.std.proofs.Common.{◌≡◌, ◌+◌, ◌≤◌, ◌++◌, length, take, vec_capacity}
use Rattle.rt_live.specs.Changes.{told_each}
use Rattle.rt_live.proofs.plan.list_row.Given as goal

-- what is told of those so far is listed, and there is room for the rest
abbrev pub invariant-loop-window : goal.invariant-loop-window
invariant-loop-window g l = record {
  told : l.list.items ≡ l.fn.changes.items ++ told_each (take l.window-index l.windows) l.id l.was l.is;
  room : length l.list.items + length l.windows ≤ vec_capacity l.list + l.window-index;
  capacity : vec_capacity l.fn.changes ≤ vec_capacity l.list;
}
