use Rattle.std.proofs.Common.{◌≡◌, ◌+◌, ◌*◌, ◌^◌, ◌≤◌, take, sum_by}
use Rattle.rt_box.specs.Rect.{overlap}
use Rattle.rt_tree_subtree.proofs.subtree.common_growth.Given as goal

abbrev pub invariant-loop-other : goal.invariant-loop-other
invariant-loop-other g l = record {
  value : l.growth + sum_by (overlap l.own) (take l.other-index l.others) ≡ sum_by (overlap l.widened) (take l.other-index l.others);
  bound : l.growth ≤ l.other-index * 2 ^ 96;
}
