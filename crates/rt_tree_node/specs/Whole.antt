-- A whole arena: its nodes, and what goes with them.
use Rattle.std.specs.Prelude.{ℕ, ◌+◌, ◌-◌, ◌*◌, ◌^◌, ◌≤◌, Option, None, length, true}
use Rattle.std.specs.Ordering.{int_eq}
use Rattle.indexmap.specs.IndexMap.{get}
use Rattle.rt_box.specs.Capacity.{least_fill}
use Rattle.rt_tree_node.specs.declared.arena.Arena.{Arena}
use Rattle.rt_tree_node.specs.Places.{count_rows, cells_at}
use Rattle.rt_tree_node.specs.Sound.{IsLinked, IsFitted, HasHomes}

-- the most rows that a tree has (own)
abbrev pub most_rows_of_a_tree : ℕ
most_rows_of_a_tree = 2 ^ 31

module _ {D : ℕ} where
  -- sound, except for what the node `odd` may lack
  pub record IsSound (t : Arena D) (odd : Option ℕ) : Type 0 where
    pub linked : IsLinked t.nodes t.root t.level t.pending.items
    pub fitted : IsFitted t.capacity t.nodes t.root t.pending.items odd
    pub homes : HasHomes (get int_eq t.leaves) t.nodes t.pending.items

  -- as between two placements: no node is out of shape
  abbrev pub IsWhole : Arena D → Type 0
  IsWhole t = IsSound t None

  -- an inner root has at least two cells
  abbrev pub IsBranched : Arena D → Type 0
  IsBranched t = 1 ≤ t.level → 2 ≤ length (cells_at t.nodes t.root)

  -- the number of rows, pending ones included
  abbrev pub row_count : Arena D → ℕ
  row_count t = count_rows (λ c. true) t.nodes t.pending.items

  -- room for the nodes of any tree with that many rows, and for 32 more, which is more than a placement adds; keys
  -- have 62 bits
  pub record HasRoom (t : Arena D) (rows : ℕ) : Type 0 where
    pub nodes : rows + (least_fill t.capacity - 1) * 33 ≤ (least_fill t.capacity - 1) * t.nodes.capacity
    pub keys : t.nodes.capacity ≤ 2 ^ 62
