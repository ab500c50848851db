-- Rows and windows as plain lists by rising id, each an id and a box. Source: own.
use Rattle.std.specs.Prelude.{ℕ, ℤ, ◌<ℤ◌, not, int_lt, List, [], ◌∷◌, ◌++◌, Option, None, Some, find, filter, AllPairs}
use Rattle.std.specs.Option.{option_map}
use Rattle.std.specs.Ordering.{int_eq}
use Rattle.rt_box.specs.declared.interval.Interval.{Interval}
use Rattle.rt_check.specs.Shadow.{ShadowLists}
use Rattle.rt_tree_walk.specs.declared.searching.Row.{Row}
use Rattle.rt_tree.specs.Lists.{rows_of}

module _ {D : ℕ} where
  -- each id is above the one before it
  abbrev pub AreRising : List (Row D) → Type 0
  AreRising rows = AllPairs (λ r other. r.id <ℤ other.id) rows

  -- the box at an id, if one is there
  abbrev pub box_at : List (Row D) → ℤ → Option (List Interval)
  box_at rows id = option_map (λ r. r.rect) (find (λ r. int_eq id r.id) rows)

  -- the row stands at its place by id, in place of one with its id
  abbrev pub placed : List (Row D) → Row D → List (Row D)
  placed rows row = filter (λ r. int_lt r.id row.id) rows ++ row ∷ filter (λ r. int_lt row.id r.id) rows

  -- nothing stands at the id
  abbrev pub taken : List (Row D) → ℤ → List (Row D)
  taken rows id = filter (λ r. not (int_eq id r.id)) rows

  -- the box stands at the id from now on, or nothing does
  abbrev pub with_box : List (Row D) → ℤ → Option (List Interval) → List (Row D)
  with_box rows id None = taken rows id
  with_box rows id (Some rect) = placed rows record { id = id; rect = rect }

  -- rows by rising id
  abbrev pub by_id : List (Row D) → List (Row D)
  by_id [] = []
  by_id (row ∷ rows) = placed (by_id rows) row

  -- the rows of a tree by rising id
  abbrev pub rows_by_id : ShadowLists D → List (Row D)
  rows_by_id s = by_id (rows_of s)
