use Rattle.std.proofs.Common.{◌≡◌, take, map}
use Rattle.rt_tree_outside.specs.Outside.{noted, node_row}
use Rattle.slab.specs.Slab.{get}
use Rattle.rt_tree_outside.proofs.seen.are_seen_at.Given as goal

abbrev pub invariant-loop-at : goal.invariant-loop-at
invariant-loop-at g l = map (λ key. node_row (noted l.numbers) key (get l.tree.nodes key)) (take l.at l.order) ≡ take l.at l.listed
