-- The box around all rows of a tree (Guttman 1984, section 2: the smallest rectangle that contains what is below a node).
use Rattle.std.specs.Prelude.{◌≢◌, ℕ, List, [], All}
use Rattle.rt_box.specs.declared.interval.Interval.{Interval}
use Rattle.rt_box.specs.Rect.{Holds}
use Rattle.rt_tree_walk.specs.declared.searching.Row.{Row}

module _ {D : ℕ} where
  -- the box holds that of each row
  abbrev pub HoldsRows : List Interval → List (Row D) → Type 0
  HoldsRows box rows = All (λ r. Holds box r.rect) rows

  -- the least box that holds that of each row: every other one that does holds it too
  pub record IsLeastAround (rows : List (Row D)) (box : List Interval) : Type 0 where
    pub some : rows ≢ []
    pub around : HoldsRows box rows
    pub least : (other : List Interval) → HoldsRows other rows → Holds other box
