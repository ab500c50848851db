use Rattle.std.proofs.Common.{◌≡◌, ◌+◌, ◌-◌, ◌≤◌, ◌++◌, length, take, reverse, vec_len, vec_capacity}
use Rattle.rt_tree_node.specs.Places.{picked, pending_at}
use Rattle.rt_tree_place.proofs.reinsertion.push_given_up.Given as goal

abbrev pub invariant-loop-back : goal.invariant-loop-back
invariant-loop-back g l = record {
  items : l.pending.items ≡ l.initial.pending.items ++ pending_at l.from.level (picked l.from.cells (take l.back (reverse l.positions)));
  room : vec_len l.pending + (length l.positions - l.back) ≤ vec_capacity l.pending;
  stays : vec_capacity l.pending ≡ vec_capacity l.initial.pending;
}
