-- How a tree is made of a shadow. No public clause cites this module.
use Rattle.std.specs.Prelude.{◌≡◌, ℕ, List}
use Rattle.rt_check.specs.Shadow.{ShadowLists}
use Rattle.rt_tree_node.specs.declared.arena.Arena.{Arena}
use Rattle.rt_tree_outside.specs.Outside.{outside}
use Rattle.rt_check.specs.declared.node.NodeRow.{NodeRow}
use Rattle.rt_map.specs.TreeBytes.{tree_bytes}
use Rattle.rt_map.specs.declared.restore_fault.RestoreFault.{RestoreFault}
use Rattle.rt_map.specs.declared.restore_fault.RestoreFault.TheVariants.{NoBox, Memory}
use Rattle.rt_map.specs.Restoring.{HasUnordered, HasRowWithoutBox, IsRestoredOf}
use Rattle.rt_tree.specs.Kept.{IsKeptWith}

module _ {D : ℕ} where
  -- the nodes of a tree that is the shadow
  pub record IsArenaSeenAs (t : Arena D) (s : ShadowLists D) : Type 0 where
    pub kept : IsKeptWith t 0
    pub seen : outside t ≡ s

  -- the nodes of a tree that is the shadow, or has its rows
  pub record IsArenaRestoredOf (t : Arena D) (s : ShadowLists D) : Type 0 where
    pub kept : IsKeptWith t 0
    pub restored : IsRestoredOf (outside t) s

  -- why a leaf, or the leaves of a shadow, don't give their rows
  abbrev pub LacksRowsIn : NodeRow D → RestoreFault → Type 0
  LacksRowsIn leaf NoBox = HasUnordered leaf
  LacksRowsIn leaf Memory = Unit {0}
  LacksRowsIn leaf fault = ⊥

  abbrev pub LacksRows : ShadowLists D → RestoreFault → Type 0
  LacksRows s NoBox = HasRowWithoutBox s
  LacksRows s Memory = Unit {0}
  LacksRows s fault = ⊥

  -- the nodes of a tree with these bytes
  pub record IsArenaOfBytes (t : Arena D) (bytes : List ℕ) : Type 0 where
    pub kept : IsKeptWith t 0
    pub same : tree_bytes (outside t) ≡ bytes
