use Rattle.std.proofs.Common.{◌≡◌, ◌*◌, take}
use Rattle.rt_calls.specs.Numbers.{AreRows}
use Rattle.rt_calls.proofs.numbers.rows_from.Given as goal

abbrev pub invariant-loop-place : goal.invariant-loop-place
invariant-loop-place g l = record {
  from : l.from ≡ l.place * (2 * g.row.D);
  rows : AreRows (take l.place l.ids) (take l.from l.boxes) l.rows.items;
}
