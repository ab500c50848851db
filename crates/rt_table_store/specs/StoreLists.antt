-- What a store of rows holds. Source: own.
use Rattle.std.specs.Prelude.{ℕ, List}
use Rattle.rt_check.specs.Shadow.{ShadowLists}
use Rattle.rt_table_row.specs.Rows.{TableRow}

-- the rows by rising id; the tree of their boxes, from outside; and how many more rows there is room for, in all and of
-- those with auxiliary values
pub record StoreLists (D : ℕ) : Type 0 where
  pub rows : List TableRow
  pub tree : ShadowLists D
  pub room : ℕ
  pub auxiliary_room : ℕ
