use Rattle.std.proofs.Common.{◌≡◌, ℕ, ◌-◌, ◌≤◌, List, Some}
use Rattle.rt_tree_node.specs.Places.{level_at}
use Rattle.rt_tree_place.specs.Path.{LeadsTo}
use Rattle.rt_tree_place.specs.Way.{LeadsUp}
use Rattle.rt_tree_place.proofs.descent.choose_node.Given as goal

abbrev pub invariant-loop-height : goal.invariant-loop-height
invariant-loop-height g l = record {
  here : level_at l.nodes l.key ≡ Some l.height;
  above : l.target ≤ l.height;
  way : (steps : ℕ) × LeadsUp l.nodes l.fn.root steps l.key;
  path : (node : ℕ) (rest : List ℕ) → LeadsTo l.nodes l.target (l.height - l.target) l.key l.rect node rest →
      (path : List ℕ) × LeadsTo l.nodes l.target (l.fn.level - l.target) l.fn.root l.rect node path;
}

abbrev pub decreases-loop-height : goal.decreases-loop-height
decreases-loop-height g l = l.height
