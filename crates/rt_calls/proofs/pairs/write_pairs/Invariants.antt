use Rattle.std.proofs.Common.{◌≡◌, take, drop}
use Rattle.rt_calls.specs.Pairs.{left_ids, right_ids}
use Rattle.rt_calls.proofs.pairs.write_pairs.Given as goal

abbrev pub invariant-loop-at : goal.invariant-loop-at
invariant-loop-at l = record {
  left : take l.at l.left ≡ left_ids (take l.at l.pairs);
  left_rest : drop l.at l.left ≡ drop l.at l.initial.left;
  right : take l.at l.right ≡ right_ids (take l.at l.pairs);
  right_rest : drop l.at l.right ≡ drop l.at l.initial.right;
}
