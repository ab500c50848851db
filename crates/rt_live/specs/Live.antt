-- Rows, windows over them, and the changes of the last edit. Source: own.
use Rattle.std.specs.Prelude.{ℕ, ℤ, List, [], map, filter, Option}
use Rattle.rt_box.specs.declared.interval.Interval.{Interval}
use Rattle.rt_tree_walk.specs.declared.searching.Row.{Row}
use Rattle.rt_live.specs.Rows.{box_at, with_box}
use Rattle.rt_live.specs.Changes.{touches, row_changes, window_changes}
use Rattle.rt_live.specs.declared.change.Change.{Change}

-- rows and windows by rising id, and what the last edit told
pub record LiveLists (D : ℕ) : Type 0 where
  pub rows : List (Row D)
  pub windows : List (Row D)
  pub changes : List Change

-- how many more rows, windows and changes there is room for; a tree with fewer rows than `search_room` is searched without
-- asking for memory
pub record LiveState (D : ℕ) : Type 0 where
  pub lists : LiveLists D
  pub row_room : ℕ
  pub window_room : ℕ
  pub change_room : ℕ
  pub search_room : ℕ

module _ {D : ℕ} where
  abbrev pub empty : LiveLists D
  empty = record { rows = []; windows = []; changes = [] }

  -- a row at the id has that box from now on, or none is there
  abbrev pub with_row : LiveLists D → ℤ → Option (List Interval) → LiveLists D
  with_row l id is = record { rows = with_box l.rows id is; windows = l.windows; changes = row_changes l.windows id (box_at l.rows id) is }

  -- a window at the id has that box from now on, or none is there
  abbrev pub with_window : LiveLists D → ℤ → Option (List Interval) → LiveLists D
  with_window l id is = record { rows = l.rows; windows = with_box l.windows id is; changes = window_changes l.rows id (box_at l.windows id) is }

  -- the ids of the rows that a window sees: those that touch it
  abbrev pub seen : LiveLists D → ℤ → List ℤ
  seen l window = map (λ r. r.id) (filter (λ r. touches (box_at l.windows window) r.rect) l.rows)
