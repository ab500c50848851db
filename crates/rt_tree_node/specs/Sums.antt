-- Sums: for each key, how many rows there are below the node (own).
use Rattle.std.specs.Prelude.{◌≡◌, ◌⊎◌, ℕ, zero, suc, ◌+◌, ◌<◌, Bool, false, List, length, sum_by, slice_index_or, Contains, Some}
use Rattle.slab.specs.Slab.{Slab, get}
use Rattle.rt_tree_node.specs.declared.cell.Cell.{Cell}
use Rattle.rt_tree_node.specs.declared.summing.Change.{Change}
use Rattle.rt_tree_node.specs.declared.summing.Rise.{Rise}
use Rattle.rt_tree_node.specs.declared.summing.Rise.TheVariants.{Lost, Done, Up}
use Rattle.rt_tree_node.specs.Node.{NodeCells}
use Rattle.rt_tree_node.specs.Places.{key_of}

-- the sum of a key
abbrev pub sum_at : List ℕ → ℕ → ℕ
sum_at sums key = slice_index_or sums key 0

module _ {D : ℕ} where
  -- how many rows there are below cells of a level, if the children's sums are right
  abbrev pub total_of : List ℕ → ℕ → List (Cell D) → ℕ
  total_of sums zero cells = length cells
  total_of sums (suc l) cells = sum_by (λ c. sum_at sums (key_of c)) cells

  abbrev pub total : List ℕ → NodeCells D → ℕ
  total sums n = total_of sums n.level n.cells

  -- the sum of each node is that of its cells, except at the odd keys
  abbrev pub AddUp : Slab (NodeCells D) → List ℕ → (ℕ → Type 0) → Type 0
  AddUp a sums odd = (key : ℕ) (n : NodeCells D) → get a key ≡ Some n → (odd key → ⊥) → sum_at sums key ≡ total sums n

  -- the same of the nodes below a level
  abbrev pub AddUpBelow : Slab (NodeCells D) → List ℕ → ℕ → Type 0
  AddUpBelow a sums level = (key : ℕ) (n : NodeCells D) → get a key ≡ Some n → n.level < level → sum_at sums key ≡ total sums n

  -- a sum changed, and the node whose cell names it doesn't know yet
  pub record Misses (a : Slab (NodeCells D)) (sums stale : List ℕ) (change : Change) : Type 0 where
    pub rest : AddUp a sums (λ key. Contains stale key ⊎ (key ≡ change.key))
    pub own : (n : NodeCells D) → get a change.key ≡ Some n → (Contains stale change.key → ⊥) →
        sum_at sums change.key + change.new ≡ total sums n + change.old

  -- what is left to do for the sums to add up
  abbrev pub Leaves : Slab (NodeCells D) → List ℕ → List ℕ → Rise → Type 0
  Leaves a sums stale Lost = Unit {0}
  Leaves a sums stale Done = AddUp a sums (Contains stale)
  Leaves a sums stale (Up change) = Misses a sums stale change

  -- the sums of the nodes below a level stay right; those of the level are right that were, and that of a node
  pub record Learns (a : Slab (NodeCells D)) (old new : List ℕ) (level node : ℕ) : Type 0 where
    pub lower : AddUpBelow a new level
    pub same : (key : ℕ) (n : NodeCells D) → get a key ≡ Some n → n.level ≡ level →
        (key ≡ node) ⊎ (sum_at old key ≡ total old n) → sum_at new key ≡ total new n

-- a key is stale from now on, as those that were, unless the sums are lost
pub record Logs (old new : List ℕ) (was is : Bool) (key : ℕ) : Type 0 where
  pub kept : is ≡ false → was ≡ false
  pub here : is ≡ false → Contains new key
  pub others : (k : ℕ) → Contains old k → Contains new k
