-- An insertion and a removal are those of the rules, said of the nested trees that the nodes show.
use Rattle.std.proofs.Common.{◌≡◌, ℕ, ℤ, List, Some, arith, refl}
use Rattle.rt_box.specs.declared.interval.Interval.{Interval}
use Rattle.rt_tree_node.specs.declared.arena.Arena.{Arena}
use Rattle.rt_tree_node.specs.declared.arena.Work.{Work}
use Rattle.rt_tree_place.specs.Insertion.{Inserts}
use Rattle.rt_tree_remove.specs.Removal.{Removes}
use Rattle.rt_tree_walk.proofs.Progress.{IsSettled}
use Rattle.rt_tree_outside.specs.Outside.{outside}
use Rattle.rt_tree_rules.specs.Shadow.{Shows}
use Rattle.rt_tree_obeys.specs.View.{tree_in}
use Rattle.rt_tree_obeys.proofs.Settled.{insertion as inserts}
use Rattle.rt_tree_obeys.proofs.Removed.{removal as removes}
use Rattle.rt_tree_obeys.proofs.Seen.{nodes_seen}
use Rattle.rt_tree.specs.Lists.{box_of}
use Rattle.rt_tree.specs.Changes.{IsInsertion, IsRemoval}
use Rattle.rt_tree.proofs.Shape.{root-high, nodes-long}

module _ {D : ℕ} where
  shows : (t : Arena D) → IsSettled t → Shows (outside t) (tree_in t)
  shows t s = (refl, nodes_seen D t s.whole s.none)

  module _ (t u : Arena D) (s : IsSettled t) (s1 : IsSettled u) (id : ℤ) (rect : List Interval) where
    pub insertion : (work : Work) → Inserts t u id rect work → IsInsertion (outside t) (outside u) id rect work
    insertion work i =
        let ruled = inserts D t i.awaiting u id rect i.marks work s.whole s.none i.awaits i.turns i.none_waits in
        record {
          before = tree_in t;
          after = tree_in u;
          shows_before = shows t s;
          shows_after = shows u s1;
          effort = ruled.effort;
          insertion = ruled.insertion;
          work_is = record {
            placements = ruled.counts.placements;
            reinsertions = ruled.counts.reinsertions;
            nodes = omega (arith, i.nodes, root-high t s, root-high u s1, nodes-long t s, nodes-long u s1);
          };
          capacity = i.capacity;
        }

    pub removal : Removes t u id rect → box_of (outside t) id ≡ Some rect → IsRemoval (outside t) (outside u) id rect
    removal r was =
        let ruled = removes D t u id rect s.whole s.none r.steps in
        record {
          was = was;
          before = tree_in t;
          after = tree_in u;
          shows_before = shows t s;
          shows_after = shows u s1;
          removal = ruled.0;
          capacity = r.capacity;
        }
