-- The keys of a tree's nodes in preorder: a node, and then what is below each of its cells, in their order.
use Rattle.std.specs.Prelude.{ℕ, zero, suc, ◌+◌, ℤ, pos, List, [], ◌∷◌, map, nat_eq}
use Rattle.std.specs.List.{flat_map, position_or_len}
use Rattle.slab.specs.Slab.{Slab}
use Rattle.rt_tree_node.specs.declared.arena.Arena.{Arena}
use Rattle.rt_tree_node.specs.Node.{NodeCells}
use Rattle.rt_tree_node.specs.Places.{key_of, cells_at, inner_cells_at}

module _ {D : ℕ} where
  -- the keys of a node's children
  abbrev pub child_keys : Slab (NodeCells D) → ℕ → List ℕ
  child_keys a key = map key_of (inner_cells_at a key)

  -- the keys of a node of the level and of the nodes below it
  abbrev pub keys_in : Slab (NodeCells D) → ℕ → ℕ → List ℕ
  keys_in a zero key = key ∷ []
  keys_in a (suc l) key = key ∷ flat_map (λ c. keys_in a l (key_of c)) (cells_at a key)

  abbrev pub tree_keys : Arena D → List ℕ
  tree_keys t = keys_in t.nodes t.level t.root

-- the key's place in the list, counted from 1
abbrev pub number_in : List ℕ → ℕ → ℤ
number_in keys key = pos (position_or_len (λ k. nat_eq k key) keys + 1)
