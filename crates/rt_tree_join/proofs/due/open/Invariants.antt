use Rattle.std.proofs.Common.{◌≡◌, ◌+◌, ◌-◌, ◌^◌, ◌<◌, ◌≤◌, ◌++◌, drop, length, map, vec_len, vec_capacity}
use Rattle.rt_tree_walk.specs.Visits.{picked}
use Rattle.rt_tree_join.specs.Due.{child_due, opened_from}
use Rattle.rt_tree_join.proofs.due.open.Given as goal

-- what is due so far and what the rest gives are all, and there is room for the rest
abbrev pub invariant-loop-rest : goal.invariant-loop-rest
invariant-loop-rest g l = record {
  below : l.rest < 2 ^ length (drop l.from l.node.cells);
  all : l.list.items ++ map (child_due l.fn.side (l.node.level - 1) l.other) (picked (drop l.from l.node.cells) l.rest) ≡ l.fn.due.items ++ opened_from l.fn.side l.node l.from l.other;
  room : vec_len l.list + length (picked (drop l.from l.node.cells) l.rest) ≤ vec_capacity l.list;
}

abbrev pub decreases-loop-rest : goal.decreases-loop-rest
decreases-loop-rest g l = l.rest
