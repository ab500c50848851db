use Rattle.std.proofs.Common.{◌≡◌, ◌++◌, take, map}
use Rattle.std.specs.Ordering.{int_eq}
use Rattle.indexmap.specs.IndexMap.{get as leaf_of}
use Rattle.rt_tree_outside.specs.Outside.{noted, row_entry}
use Rattle.rt_tree_outside.proofs.outside.list_rows.Given as goal

abbrev pub invariant-loop-id : goal.invariant-loop-id
invariant-loop-id g l =
    l.shadow ≡ record l.fn.shadow { rows = l.fn.shadow.rows ++ map (row_entry (noted l.numbers) (leaf_of int_eq l.leaves)) (take l.id-index l.ids) }
