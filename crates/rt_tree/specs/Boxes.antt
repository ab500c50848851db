-- The boxes of a tree's cells. Source: own.
use Rattle.std.specs.Prelude.{ℕ, All}
use Rattle.rt_box.specs.Rect.{IsBox}
use Rattle.rt_check.specs.Shadow.{ShadowLists}
use Rattle.rt_tree.specs.Lists.{box_in}

module _ {D : ℕ} where
  -- each cell has a box, whether it names a node or a row
  abbrev pub HasBoxes : ShadowLists D → Type 0
  HasBoxes s = All (λ node. All (λ cell. IsBox D (box_in cell)) node.cells) s.nodes
