use Rattle.rt_box.specs.Keys.{IsLeast}
use Rattle.rt_tree_choice.specs.Split.{axis_key}
use Rattle.rt_tree_choice.specs.Judgements.{IsJudgedAxis}
use Rattle.rt_tree_choice.proofs.split.choose_split.Given as goal

abbrev pub invariant-loop-axis : goal.invariant-loop-axis
invariant-loop-axis g l = record {
  judged : IsJudgedAxis l.boxes l.capacity l.best.cut.axis l.best;
  best_so_far : IsLeast (axis_key l.boxes l.capacity) 0 l.axis l.best.cut.axis;
}
