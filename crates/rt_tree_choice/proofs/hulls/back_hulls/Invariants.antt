use Rattle.rt_tree_choice.proofs.Covering.{IsBackFrom}
use Rattle.rt_tree_choice.proofs.hulls.back_hulls.Given as goal

abbrev pub invariant-loop-back : goal.invariant-loop-back
invariant-loop-back g l = IsBackFrom l.boxes l.order l.hulls l.hull l.back
