-- The nested tree of an arena: what its cells name is put in the cells' place (own).
use Rattle.std.specs.Prelude.{ℕ, zero, suc, List, map}
use Rattle.slab.specs.Slab.{Slab}
use Rattle.rt_tree_node.specs.declared.arena.Arena.{Arena}
use Rattle.rt_tree_node.specs.declared.cell.Cell.{Cell}
use Rattle.rt_tree_node.specs.declared.cell.Pending.{Pending}
use Rattle.rt_tree_node.specs.Node.{NodeCells}
use Rattle.rt_tree_node.specs.Places.{key_of, cells_at}
use Rattle.rt_tree_rules.specs.Nested.{Entry, Node, Tree, Waiting}

module _ {D : ℕ} where
  -- what a cell of a node of the level holds
  abbrev pub entry_in : Slab (NodeCells D) → (l : ℕ) → Cell D → Entry l
  entry_in a zero c = record { id = c.number; rect = c.rect }
  entry_in a (suc l) c = map (entry_in a l) (cells_at a (key_of c))

  -- the node at the key, which is one of the level
  abbrev pub node_in : Slab (NodeCells D) → (l : ℕ) → ℕ → Node l
  node_in a l key = map (entry_in a l) (cells_at a key)

  abbrev pub tree_in : Arena D → Tree
  tree_in t = record { level = t.level; root = node_in t.nodes t.level t.root }

  -- a pending cell
  abbrev pub waiting_in : Slab (NodeCells D) → Pending D → Waiting
  waiting_in a w = record { level = w.level; entry = entry_in a w.level w.cell }

  abbrev pub waiting_cells : Arena D → List Waiting
  waiting_cells t = map (waiting_in t.nodes) t.pending.items
