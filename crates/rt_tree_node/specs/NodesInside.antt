-- How the nodes keep the numbers of rows below them (own). No public clause cites this module.
use Rattle.std.specs.Prelude.{◌≡◌, ℕ, ◌≤◌, false, Contains}
use Rattle.slab.specs.Slab.{Slab}
use Rattle.rt_tree_node.specs.declared.nodes.Nodes.TheInside.{Inside}
use Rattle.rt_tree_node.specs.Node.{NodeCells}
use Rattle.rt_tree_node.specs.Sums.{AddUp}

module _ {D : ℕ} where
  abbrev pub slab_of : Inside D → Slab (NodeCells D)
  slab_of n = n.slab

  -- there are at most three axes; unless the sums are lost, those of all nodes add up, except at the stale keys
  pub record AreSummed (n : Inside D) : Type 0 where
    pub few : D ≤ 3
    pub sums : n.is_lost ≡ false → AddUp n.slab n.sums.items (Contains n.stale.items)
