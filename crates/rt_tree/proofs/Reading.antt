-- What is read at the number of a node, in a settled tree from outside.
use Rattle.std.proofs.Common.{◌≡◌, ℕ, ℤ, [], map, Some, ap, ◌∙◌}
use Rattle.std.specs.Option.{option_map, option_map_or}
use Rattle.rt_check.specs.declared.node.NodeRow.{NodeRow}
use Rattle.rt_check.specs.Conditions.{node_of}
use Rattle.rt_tree_node.specs.declared.arena.Arena.{Arena}
use Rattle.rt_tree_node.specs.Places.{cells_at, level_at}
use Rattle.rt_tree_walk.specs.Preorder.{tree_keys, number_in}
use Rattle.rt_tree_outside.specs.Outside.{cell_row, outside}
use Rattle.rt_tree_outside.specs.InOrder.{cells_of_number}
use Rattle.rt_tree_walk.proofs.Progress.{IsSettled}
use Rattle.rt_tree_outside.proofs.Judged.{row, looked-up, row-cells, row-level}
use Rattle.rt_tree_outside.proofs.Flawless.{numbering}
use Rattle.rt_tree.specs.Lists.{level_of_number}

module _ {D : ℕ} where
  -- the number of the node at a key
  abbrev pub number : Arena D → ℕ → ℤ
  number t = number_in (tree_keys t)

  module _ (t : Arena D) (s : IsSettled t) (k l : ℕ) (at : level_at t.nodes k ≡ Some l) where
    abbrev pub listed : ℕ → NodeRow D
    listed = row t s (tree_keys t) (number t) (numbering t s)

    pub node-read : node_of (outside t).nodes (number t k) ≡ Some (listed k)
    node-read = looked-up t s (tree_keys t) (number t) (numbering t s) k l at

    pub level-read : level_of_number (outside t) (number t k) ≡ Some l
    level-read = ap (option_map (λ (n : NodeRow D). n.level)) node-read ∙ ap Some (row-level t s (tree_keys t) (number t) (numbering t s) k l at)

    pub cells-read : cells_of_number (outside t).nodes (number t k) ≡ map (cell_row (number t) l) (cells_at t.nodes k)
    cells-read = ap (λ o. option_map_or (λ (n : NodeRow D). n.cells) o []) node-read ∙ row-cells t s (tree_keys t) (number t) (numbering t s) k l at
