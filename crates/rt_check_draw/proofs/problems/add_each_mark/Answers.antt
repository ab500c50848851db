use Rattle.std.proofs.Common.{arith}
use Rattle.rt_check_draw.specs.Problems.{marks_of}
use Rattle.rt_check_draw.proofs.Drawn.{appended}
use Rattle.rt_check_draw.proofs.problems.add_each_mark.Goals as goal

pub loop-problem-preserved : goal.loop-problem-preserved
loop-problem-preserved g c =
    appended (marks_of c.args.frame.now c.args.shadow.now.nodes) _ _ _ c.args.problems.now c.loop-problem.problem-index _ (omega arith) c.loop-problem.invariant c.in_ok-add_marks.ensures
