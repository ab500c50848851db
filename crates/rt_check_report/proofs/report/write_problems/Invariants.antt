use Rattle.std.proofs.Common.{take}
use Rattle.std.specs.List.{flat_map}
use Rattle.rt_bytes.specs.Bytes.{WritesAll}
use Rattle.rt_check_report.specs.Verdict.{problem_line}
use Rattle.rt_check_report.proofs.report.write_problems.Given as goal

-- the lines of the problems before this one are written
abbrev pub invariant-loop-problem : goal.invariant-loop-problem
invariant-loop-problem g l = WritesAll (g.W.ByteWriter.written l.initial.writer) (g.W.ByteWriter.written l.writer)
    (g.W.ByteWriter.faults l.initial.writer) (g.W.ByteWriter.faults l.writer)
    (flat_map problem_line (take l.problem-index l.problems))
