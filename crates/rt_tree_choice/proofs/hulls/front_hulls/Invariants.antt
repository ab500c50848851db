use Rattle.std.proofs.Common.{◌≡◌, ℕ, ◌+◌, ◌<◌, List, length, take, get_or}
use Rattle.rt_box.specs.declared.interval.Interval.{Interval}
use Rattle.rt_box.specs.Hull.{hull}
use Rattle.rt_tree_choice.specs.Hull.{boxes_at}
use Rattle.rt_tree_choice.proofs.hulls.front_hulls.Given as goal

abbrev pub invariant-loop-place : goal.invariant-loop-place
invariant-loop-place g l = record {
  long : length l.hulls ≡ 52;
  hull_is : l.hull ≡ hull (boxes_at l.boxes (take l.place l.order));
  fronts : (k : ℕ) → k < l.place → (d : List Interval) → get_or l.hulls k d ≡ hull (boxes_at l.boxes (take (k + 1) l.order));
}
