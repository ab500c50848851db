use Rattle.std.proofs.Common.{◌≡◌, ◌-◌, take, length}
use Rattle.rt_check_dump.specs.Lines.{ranges_of}
use Rattle.rt_check_dump.proofs.Ranges.{joined}
use Rattle.rt_check_dump.proofs.lines.ranges_of.Given as goal

-- the ranges so far, and those of the words left, are all
abbrev pub invariant-loop-axis : goal.invariant-loop-axis
invariant-loop-axis g l = record {
  low : length l.lo ≡ g.row.D;
  high : length l.hi ≡ g.row.D;
  same : joined (take l.axis l.lo) (take l.axis l.hi) (ranges_of (g.row.D - l.axis) l.words) ≡ ranges_of g.row.D l.initial.words;
}
