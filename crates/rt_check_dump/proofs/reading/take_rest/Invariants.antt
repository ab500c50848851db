use Rattle.std.proofs.Common.{◌≡◌, ◌+◌, ◌<◌, ◌^◌, length}
use Rattle.rt_check_dump.specs.Reading.{read_rest}
use Rattle.rt_check_dump.proofs.reading.take_rest.Given as goal

-- reading on from here gives what reading all gives
abbrev pub invariant-loop-line : goal.invariant-loop-line
invariant-loop-line g l = record {
  same : read_rest l.lines l.progress l.number ≡ read_rest l.initial.lines l.initial.progress 2;
  short : l.number + length l.lines < 2 ^ 64;
}

abbrev pub decreases-loop-line : goal.decreases-loop-line
decreases-loop-line g l = length l.lines
