-- How a node keeps its cells. No public clause cites this module.
use Rattle.std.specs.Prelude.{◌≡◌, ℕ, ◌≤◌, ℤ, List, [], ◌∷◌, length}
use Rattle.rt_box.specs.declared.interval.Interval.{Interval}
use Rattle.rt_tree_node.specs.declared.cell.Cell.{Cell}
use Rattle.rt_tree_node.specs.declared.node.Node.TheInside.{Inside}
use Rattle.rt_tree_node.specs.Node.{NodeCells}

module _ {D : ℕ} where
  -- numbers and boxes, cell by cell
  abbrev pub paired : List ℤ → List (List Interval) → List (Cell D)
  paired [] rects = []
  paired (n ∷ ns) [] = []
  paired (n ∷ ns) (b ∷ bs) = record { number = n; rect = b } ∷ paired ns bs

  abbrev pub node_of : Inside D → NodeCells D
  node_of n = record { level = n.level; parent = n.parent; cells = paired n.numbers.items n.boxes.items }

  -- there is a box for each number, and one to three axes
  pub record IsPaired (n : Inside D) : Type 0 where
    pub some : 1 ≤ D
    pub few : D ≤ 3
    pub long : length n.numbers.items ≡ length n.boxes.items
