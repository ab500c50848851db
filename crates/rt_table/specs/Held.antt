-- What a table holds. Source: own.
use Rattle.std.specs.Prelude.{ℕ, List}
use Rattle.rt_check.specs.Shadow.{ShadowLists}
use Rattle.rt_check_dump.specs.declared.dump.AnyShadow.{AnyShadow}
use Rattle.rt_table_row.specs.Tables.{TableLists}
use Rattle.rt_table_row.specs.Views.{ViewChange}
use Rattle.rt_table_view.specs.Watching.{Awaited}

-- the table as statements see it, the tree of its rows, and what was made ready for the next plan: how many more rows
-- there is room for, in all and of those with auxiliary values, what each view has ready, and what the plan changes in
-- the views
pub record Held (D : ℕ) : Type 0 where
  pub lists : TableLists
  pub tree : ShadowLists D
  pub room : ℕ
  pub auxiliary_room : ℕ
  pub awaited : List Awaited
  pub staged : List ViewChange

-- a table of any number of axes: as statements see it, and the tree of its rows
pub record TableAndTree : Type 0 where
  pub lists : TableLists
  pub tree : AnyShadow
