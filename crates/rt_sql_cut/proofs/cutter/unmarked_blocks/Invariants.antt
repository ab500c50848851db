use Rattle.std.proofs.Common.{◌≡◌, ◌+◌, ◌-◌, ◌≤◌, length, drop}
use Rattle.rt_sql_cut.specs.CutterStep.{unmarked_len}
use Rattle.rt_sql_cut.proofs.cutter.unmarked_blocks.Given as goal

abbrev pub invariant-loop-end : goal.invariant-loop-end
invariant-loop-end l = (l.end + unmarked_len (drop l.end l.bytes) ≡ unmarked_len l.bytes) × (l.end ≤ length l.bytes)

abbrev pub decreases-loop-end : goal.decreases-loop-end
decreases-loop-end l = length l.bytes - l.end
