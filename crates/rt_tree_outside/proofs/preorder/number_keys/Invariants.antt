use Rattle.rt_tree_outside.proofs.Numbering.{AreNoted}
use Rattle.rt_tree_outside.proofs.preorder.number_keys.Given as goal

abbrev pub invariant-loop-back : goal.invariant-loop-back
invariant-loop-back l = AreNoted l.order l.bound l.numbers.items l.back
