use Rattle.std.proofs.Common.{arith}
use Rattle.rt_check_draw.specs.Problems.{problem_line}
use Rattle.rt_check_draw.proofs.Drawn.{appended}
use Rattle.rt_check_draw.proofs.problems.add_lines.Goals as goal

pub loop-problem-preserved : goal.loop-problem-preserved
loop-problem-preserved c =
    appended problem_line _ _ _ c.args.problems.now c.loop-problem.problem-index _ (omega arith) c.loop-problem.invariant c.in_ok-add_line.ensures
