use Rattle.std.proofs.Common.{◌≡◌, ◌-◌, ◌*◌, ◌^◌, ◌≤◌, sum_by}
use Rattle.std.specs.List.{range_with_len}
use Rattle.rt_box.specs.Boxes.{box_at}
use Rattle.rt_box.specs.Keys.{IsLeast}
use Rattle.rt_tree_choice.specs.Judgements.{AreQualityOf, margins_at, costs_at}
use Rattle.rt_box.proofs.Keys.{ranked}
use Rattle.rt_tree_choice.proofs.split.best_parting.Given as goal

abbrev pub invariant-loop-first : goal.invariant-loop-first
invariant-loop-first g l = record {
  margins_are : l.margins ≡ sum_by (margins_at l.fronts l.backs) (range_with_len l.least (l.first - l.least));
  few_margins : l.margins ≤ (l.first - l.least) * 2 ^ 35;
  quality_is : AreQualityOf (box_at l.fronts (l.best - 1)) (box_at l.backs l.best) l.quality;
  best_so_far : IsLeast (ranked (costs_at l.fronts l.backs)) l.least l.first l.best;
}
