use Rattle.std.proofs.Common.{take, map}
use Rattle.rt_tree.specs.Lists.{rows_of}
use Rattle.rt_tree_many.specs.Parts.{HasParts, nearest_ids}
use Rattle.rt_tree_many.proofs.searching.nearest_many.Given as goal

abbrev pub invariant-loop-point : goal.invariant-loop-point
invariant-loop-point g l =
    HasParts (map (nearest_ids l.k (rows_of l.tree.lists)) (take l.point-index l.points)) l.found.ids.items l.found.starts.items
