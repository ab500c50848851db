-- The rows that a condition picks, and rows of a tree as the rows of a table. Source: own.
use Rattle.std.specs.Prelude.{◌≡◌, ℕ, ℤ, Bool, false, List, Some, map, filter, count_by}
use Rattle.std.specs.Option.{option_map, option_map_or}
use Rattle.rt_box.specs.declared.interval.Interval.{Interval}
use Rattle.rt_box.specs.Window.{IsUnlimited}
use Rattle.rt_check.specs.Shadow.{ShadowLists}
use Rattle.rt_tree_walk.specs.declared.searching.Row.{Row}
use Rattle.rt_table_row.specs.Rows.{TableRow, row_at}
use Rattle.rt_table_row.specs.Filters.{Placed, admits}
use Rattle.rt_table_row.specs.Windows.{IsWindowAt}
use Rattle.rt_table_store.specs.Trees.{leaf_row}
use Rattle.rt_table_store.specs.Visiting.{Visits}

module _ {D : ℕ} where
  -- the table's row of that id has that box
  abbrev pub Stands : List TableRow → Row D → Type 0
  Stands rows row = option_map leaf_row (row_at rows row.id) ≡ Some row

  -- the table's row of that id passes
  abbrev pub passes : (TableRow → Bool) → List TableRow → Row D → Bool
  passes test rows row = option_map_or test (row_at rows row.id) false

  -- of rows that were found those of which the condition holds
  abbrev pub passing_rows : Placed → List TableRow → List (Row D) → List (Row D)
  passing_rows condition rows found = filter (passes (admits condition) rows) found

  -- the rows of which the condition holds, as a tree has them
  abbrev pub picked_rows : Placed → List TableRow → List (Row D)
  picked_rows condition rows = map leaf_row (filter (admits condition) rows)

  -- these are the picked rows, each once, in any order
  abbrev pub ArePicked : Placed → List TableRow → List (Row D) → Type 0
  ArePicked condition rows found = (test : Row D → Bool) → count_by test found ≡ count_by test (picked_rows condition rows)

  -- `visited` nodes are reached by a window of the condition
  abbrev pub VisitsBy : Placed → ShadowLists D → ℕ → Type 0
  VisitsBy condition tree visited = (window : List Interval) × IsWindowAt D condition window × Visits tree window visited

  -- `visited` nodes are reached by a window without limits
  abbrev pub VisitsFreely : ShadowLists D → ℕ → Type 0
  VisitsFreely tree visited = (window : List Interval) → IsUnlimited D window → Visits tree window visited

-- the ids of the rows of which the condition holds
abbrev pub picked_ids : Placed → List TableRow → List ℤ
picked_ids condition rows = map (λ row. row.id) (filter (admits condition) rows)

-- a window of the condition has no limits
abbrev pub HasFreeWindow : ℕ → Placed → Type 0
HasFreeWindow axes condition = (window : List Interval) × IsWindowAt axes condition window × IsUnlimited axes window
