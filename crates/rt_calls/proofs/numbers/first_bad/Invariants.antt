use Rattle.std.proofs.Common.{◌≡◌, ◌*◌}
use Rattle.rt_calls.specs.Numbers.{AreAllOrdered}
use Rattle.rt_calls.proofs.numbers.first_bad.Given as goal

abbrev pub invariant-loop-place : goal.invariant-loop-place
invariant-loop-place g l = record {
  from : l.from ≡ l.place * (2 * g.row.D);
  ordered : AreAllOrdered g.row.D l.place l.boxes;
}
