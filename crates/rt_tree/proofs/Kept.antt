-- What a tree keeps.
use Rattle.std.proofs.Common.{◌≡◌, ℕ, [], subst}
use Rattle.std.specs.Ordering.{int_eq}
use Rattle.indexmap.specs.IndexMap.{IsUnique}
use Rattle.rt_tree_outside.specs.Outside.{outside}
use Rattle.rt_tree_walk.proofs.Progress.{IsSettled}
use Rattle.rt_tree_outside.proofs.Flawless.{outside-sound}
use Rattle.rt_tree_outside.proofs.Subtrees.{outside-ordered}
use Rattle.rt_tree_outside.proofs.Rows.{entries-rise}
use Rattle.rt_tree.specs.Lists.{IsInShape}
use Rattle.rt_tree_node.specs.declared.arena.Arena.{Arena}
use Rattle.rt_tree_node.specs.Whole.{IsWhole}
use Rattle.rt_tree_node.specs.Sound.{IsLinked}
use Rattle.rt_tree_node.specs.Below.{HangTogether}
use Rattle.rt_tree.specs.Kept.{IsKeptWith}
use Rattle.rt_tree.specs.TreeInside.{IsKept}
use Rattle.rt_tree.specs.declared.tree.Tree.TheInside.{Inside}

module _ {D : ℕ} where
  pub kept-settled : (t : Arena D) (more : ℕ) → IsKeptWith t more → IsSettled t
  kept-settled t more k = record { whole = k.whole; none = k.idle }

  pub joined : (t : Arena D) → IsWhole t → t.pending.items ≡ [] → HangTogether t.nodes
  joined t whole none = record { root = t.root; level = t.level; linked = subst (IsLinked t.nodes t.root t.level) none whole.linked }

  pub settled : (t : Inside D) → IsKept t → IsSettled t.arena
  settled t k = record { whole = k.whole; none = k.idle }

  pub in-shape : (t : Inside D) → IsKept t → IsUnique int_eq t.arena.leaves → IsInShape (outside t.arena)
  in-shape t k unique = record {
    sound = outside-sound t.arena (settled t k) k.branched;
    preorder = outside-ordered t.arena (settled t k);
    rising = entries-rise t.arena unique;
  }
