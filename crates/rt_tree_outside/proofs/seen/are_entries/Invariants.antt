use Rattle.std.proofs.Common.{◌≡◌, take, map}
use Rattle.std.specs.Ordering.{int_eq}
use Rattle.indexmap.specs.IndexMap.{get as leaf_of}
use Rattle.rt_tree_outside.specs.Outside.{noted, row_entry}
use Rattle.rt_tree_outside.proofs.seen.are_entries.Given as goal

abbrev pub invariant-loop-at : goal.invariant-loop-at
invariant-loop-at l = map (row_entry (noted l.numbers) (leaf_of int_eq l.leaves)) (take l.at l.ids) ≡ take l.at l.listed
