use Rattle.std.proofs.Common.{length, take, zip}
use Rattle.rt_table_row.proofs.Windows.{IsNarrowedBy}
use Rattle.rt_table_row.proofs.window.window_of.Given as goal

abbrev pub invariant-loop-test : goal.invariant-loop-test
invariant-loop-test g l = IsNarrowedBy g.row.D l.window (take (length l.yielded) (zip l.tests l.places))
