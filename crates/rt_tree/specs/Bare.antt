-- A tree without rows. Source: own.
use Rattle.std.specs.Prelude.{◌≡◌, ◌≢◌, ℕ, [], None, Some}
use Rattle.slab.specs.Slab.{get, slab_len}
use Rattle.rt_box.specs.Capacity.{IsCapacity}
use Rattle.rt_tree_node.specs.declared.arena.Arena.{Arena}

module _ {D : ℕ} where
  -- its root is a leaf, and there is no other node
  pub record IsBare (t : Arena D) : Type 0 where
    pub cap : IsCapacity t.capacity
    pub leaf : get t.nodes t.root ≡ Some record { level = 0; parent = None; cells = [] }
    pub level : t.level ≡ 0
    pub alone : (key : ℕ) → key ≢ t.root → get t.nodes key ≡ None
    pub one : slab_len t.nodes ≡ 1
    pub idle : t.pending.items ≡ []
