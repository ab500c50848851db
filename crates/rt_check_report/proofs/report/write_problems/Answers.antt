use Rattle.std.proofs.Common.{arith}
use Rattle.rt_bytes.proofs.Writing.{WritesAll-part, WritesPrefix-part, Writes-failed}
use Rattle.rt_check_report.specs.Verdict.{problem_line}
use Rattle.rt_check_report.proofs.report.write_problems.Goals as goal

pub returns-in_err-write_problem : goal.returns-in_err-write_problem
returns-in_err-write_problem g c =
    Writes-failed _ _ _ _ _ _ c.from_residual.ensures.0
    (WritesPrefix-part problem_line _ _ _ _ _ _ c.args.problems.now c.loop-problem.problem-index _ (omega arith)
    c.loop-problem.invariant c.in_err-write_problem.ensures)

pub loop-problem-preserved : goal.loop-problem-preserved
loop-problem-preserved g c =
    WritesAll-part problem_line _ _ _ _ _ _ c.args.problems.now c.loop-problem.problem-index _ (omega arith)
    c.loop-problem.invariant c.in_ok-write_problem.ensures
