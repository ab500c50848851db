use Rattle.std.proofs.Common.{◌≡◌, []}
use Rattle.std.specs.List.{sum_by}
use Rattle.rt_tree_join.specs.Itself.{steps_within}
use Rattle.rt_tree_join.proofs.Within.{Pairing}
use Rattle.rt_tree_join.proofs.itself.join_self.Given as goal

abbrev pub invariant-loop-next : goal.invariant-loop-next
invariant-loop-next g l = record {
  pairing : Pairing l.tree l.pairs.items l.nodes.items;
  none : l.due.items ≡ [];
}

abbrev pub decreases-loop-next : goal.decreases-loop-next
decreases-loop-next g l = sum_by (steps_within l.tree) l.nodes.items
