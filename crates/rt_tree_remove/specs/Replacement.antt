-- What the replacement of a row comes to (own).
use Rattle.std.specs.Prelude.{ℕ, ℤ, List}
use Rattle.std.specs.Ordering.{int_eq}
use Rattle.indexmap.specs.IndexMap.{IsUnique}
use Rattle.rt_box.specs.declared.interval.Interval.{Interval}
use Rattle.rt_tree_node.specs.declared.arena.Arena.{Arena}
use Rattle.rt_tree_node.specs.declared.arena.Work.{Work}
use Rattle.rt_tree_place.specs.Insertion.{Inserts}
use Rattle.rt_tree_remove.specs.Removal.{Removes}

-- the row with the id and the first box was removed, and inserted again with the second one
pub record Replaces {D : ℕ} (old new : Arena D) (id : ℤ) (was rect : List Interval) : Type 0 where
  pub between : Arena D
  pub removes : Removes old between id was
  -- no id stands twice in the map of leaves between the two
  pub unique : IsUnique int_eq between.leaves
  pub work : Work
  pub inserts : Inserts between new id rect work
