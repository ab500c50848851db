-- A row that was removed where it was found, and inserted again with another box.
use Rattle.std.proofs.Common.{ℕ, ◌-◌, ◌≤◌, ℤ, List, IsSome, arith}
use Rattle.std.specs.Ordering.{int_eq}
use Rattle.indexmap.specs.IndexMap.{get as leaf_of, IsUnique}
use Rattle.rt_box.specs.declared.interval.Interval.{Interval}
use Rattle.rt_tree_node.specs.declared.arena.Arena.{Arena}
use Rattle.rt_tree_node.specs.declared.arena.Work.{Work}
use Rattle.rt_tree_place.specs.Insertion.{Inserts}
use Rattle.rt_tree_remove.specs.Removal.{Removes}
use Rattle.rt_tree_outside.specs.Outside.{outside}
use Rattle.rt_tree.specs.Replacing.{IsReplacement}
use Rattle.rt_tree.specs.TreeInside.{IsKept}
use Rattle.rt_tree.specs.declared.tree.Tree.TheInside.{Inside}
use Rattle.rt_tree.proofs.Kept.{in-shape}
use Rattle.rt_tree.proofs.Changed.{fewer-rows, removed-kept, removed-rows, removed-ruled, removed-drops, inserted-kept, inserted-rows, inserted-ruled, inserted-takes}

module _ {D : ℕ} where
  module _ (t : Inside D) (k : IsKept t) (mid new : Arena D) (id : ℤ) (was rect : List Interval) (work : Work) (removes : Removes t.arena mid id was)
      (inserts : Inserts mid new id rect work) where
    abbrev between : Inside D
    between = record { arena = mid; spare = t.spare }

    between-kept : IsKept between
    between-kept = removed-kept t k mid id was removes

    pub replaced-kept : 1 ≤ t.spare → IsKept {D = D} record { arena = new; spare = t.spare - 1 }
    replaced-kept some = inserted-kept between between-kept new id rect work inserts (t.spare - 1) (omega arith) (omega (arith, fewer-rows t k mid id was removes, k.rows))

    pub replacement : IsSome (leaf_of int_eq t.arena.leaves id) → IsUnique int_eq mid.leaves → IsReplacement (outside t.arena) (outside new) id rect
    replacement known unique = record {
      was = was;
      between = outside mid;
      shape = in-shape between between-kept unique;
      capacity = removes.capacity;
      loses = removed-rows t k mid id was removes;
      removal = removed-ruled t k mid id was removes;
      drops = removed-drops t k mid id was removes known;
      work = work;
      gains = inserted-rows between between-kept new id rect work inserts;
      insertion = inserted-ruled between between-kept new id rect work inserts;
      takes = inserted-takes between between-kept new id rect work inserts;
    }
