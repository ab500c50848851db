use Rattle.std.proofs.Common.{◌≡◌, ◌≤◌, ◌++◌, take, vec_capacity}
use Rattle.std.specs.List.{filter}
use Rattle.rt_live.specs.Finding.{is_told}
use Rattle.rt_live.proofs.finding.push_rows_told.Given as goal

abbrev pub invariant-loop-row : goal.invariant-loop-row
invariant-loop-row g l = record {
  rows : l.found.items ≡ l.fn.found.items ++ filter (is_told l.was l.is) (take l.row-index l.rows);
  capacity : vec_capacity l.fn.found ≤ vec_capacity l.found;
}
