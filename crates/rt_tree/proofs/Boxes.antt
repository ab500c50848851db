-- The cells of a settled tree from outside have boxes.
use Rattle.std.proofs.Common.{◌≡◌, ℕ, List, All, Some, sym, subst}
use Rattle.std.proofs.lemmas.List.Elements.{All-weaker}
use Rattle.rt_box.specs.Rect.{IsBox}
use Rattle.rt_check.specs.declared.node.NodeRow.{NodeRow}
use Rattle.rt_check.specs.declared.node.RawCell.{RawCell}
use Rattle.rt_tree_node.specs.declared.arena.Arena.{Arena}
use Rattle.rt_tree_node.specs.declared.cell.Cell.{Cell}
use Rattle.rt_tree_node.specs.Places.{cells_at, level_at}
use Rattle.rt_tree_walk.specs.Preorder.{tree_keys}
use Rattle.rt_tree_outside.specs.Outside.{cell_row, outside}
use Rattle.rt_tree_walk.proofs.Progress.{IsSettled}
use Rattle.rt_tree_walk.proofs.Listed.{HasNode}
use Rattle.rt_tree_walk.proofs.Judging.{All-mapped}
use Rattle.rt_tree_outside.proofs.Judged.{row, row-cells}
use Rattle.rt_tree_outside.proofs.Flawless.{numbering}
use Rattle.rt_tree.specs.Lists.{box_in}
use Rattle.rt_tree.specs.Boxes.{HasBoxes}
use Rattle.rt_tree.proofs.Rows.{intervals-back}
use Rattle.rt_tree.proofs.Reading.{number}

module _ {D : ℕ} (t : Arena D) (s : IsSettled t) where
  box-back : (l : ℕ) (c : Cell D) → IsBox D c.rect → IsBox D (box_in (cell_row (number t) l c))
  box-back l c is = subst (IsBox D) (sym (intervals-back c.rect)) is

  node-boxes : (k l : ℕ) → level_at t.nodes k ≡ Some l → All (λ (c : RawCell D). IsBox D (box_in c)) (row t s (tree_keys t) (number t) (numbering t s) k).cells
  node-boxes k l at =
      subst (λ (cs : List (RawCell D)). All (λ c. IsBox D (box_in c)) cs) (sym (row-cells t s (tree_keys t) (number t) (numbering t s) k l at))
      (All-mapped (λ (c : RawCell D). IsBox D (box_in c)) (cell_row (number t) l) (cells_at t.nodes k)
      (All-weaker (λ (c : Cell D). IsBox D c.rect) (λ c. IsBox D (box_in (cell_row (number t) l c))) (box-back l) (cells_at t.nodes k) (s.whole.fitted.boxes k)))

  pub has-boxes : HasBoxes (outside t)
  has-boxes =
      let is = numbering t s in
      All-mapped (λ (n : NodeRow D). All (λ (c : RawCell D). IsBox D (box_in c)) n.cells) (row t s (tree_keys t) (number t) (numbering t s)) (tree_keys t)
      (All-weaker (HasNode t s) (λ k. All (λ (c : RawCell D). IsBox D (box_in c)) (row t s (tree_keys t) (number t) (numbering t s) k).cells) (λ k n. node-boxes k n.0 n.1) (tree_keys t) is.there)
