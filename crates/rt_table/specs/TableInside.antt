-- What a table's fields are to hold. Source: own.
use Rattle.std.specs.Prelude.{◌≡◌, ◌≤◌, ℕ, map}
use Rattle.std.specs.List.{All}
use Rattle.rt_table_row.specs.Rows.{AreRising}
use Rattle.rt_table.specs.declared.table.Table.TheInside.{Inside}
use Rattle.rt_table.specs.Held.{Held}
use Rattle.rt_table_view.specs.Watching.{view_of, awaited_of, IsKept}

abbrev pub contents : {D : _} → Inside D → Held D
contents t = record {
  lists = record { columns = t.columns; rows = t.store.rows; views = map view_of t.views.items };
  tree = t.store.tree;
  room = t.store.room;
  auxiliary_room = t.store.auxiliary_room;
  awaited = map awaited_of t.views.items;
  staged = t.staged;
}

-- one to three axes, and views of the rows that are there
pub record IsWhole (D : ℕ) (t : Inside D) : Type 0 where
  pub some : 1 ≤ D
  pub few : D ≤ 3
  pub axes_are : t.columns.axes ≡ D
  pub rising : AreRising t.store.rows
  pub kept : All (IsKept t.columns t.store.rows) t.views.items
