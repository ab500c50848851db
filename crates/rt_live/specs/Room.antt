-- Room for what an edit finds and tells. Source: own.
use Rattle.std.specs.Prelude.{ℕ, ◌+◌, ◌-◌, ◌*◌, ◌<◌, ◌≤◌, ◌||◌, List, Option, None, Some, length, count_by, vec_capacity}
use Rattle.rt_box.specs.Capacity.{least_fill}
use Rattle.rt_box.specs.declared.interval.Interval.{Interval}
use Rattle.rt_check.specs.Shadow.{ShadowLists}
use Rattle.rt_tree_walk.specs.declared.searching.Row.{Row}
use Rattle.rt_tree.specs.Lists.{rows_of}
use Rattle.rt_live.specs.declared.finding.Scratch.{Scratch}
use Rattle.rt_live.specs.Rows.{rows_by_id}
use Rattle.rt_live.specs.Changes.{touches}
use Rattle.rt_live.specs.Finding.{is_new}
use Rattle.rt_live.specs.Live.{LiveState}

-- a box uses up the room of one row, or window
abbrev pub used : Option (List Interval) → ℕ
used None = 0
used (Some rect) = 1

module _ {D : ℕ} where
  -- how many rows touch one of the boxes
  abbrev pub around : Option (List Interval) → Option (List Interval) → List (Row D) → ℕ
  around was is rows = count_by (λ r. touches was r.rect || touches is r.rect) rows

  -- there is room for that many more rows and windows, and then for edits that look at that many windows, or rows
  pub record HasRoom (state : LiveState D) (rows windows changes : ℕ) : Type 0 where
    pub rows_fit : rows ≤ state.row_room
    pub windows_fit : windows ≤ state.window_room
    pub changes_fit : changes ≤ state.change_room
    pub rows_reached : length state.lists.rows + rows < state.search_room
    pub windows_reached : length state.lists.windows + windows < state.search_room

  -- room for that many rows and windows was used up at most: whatever there was room for beside them, there still is
  abbrev pub UsesRoom : LiveState D → LiveState D → ℕ → ℕ → Type 0
  UsesRoom old new rows windows = (r w c : ℕ) → HasRoom old (r + rows) (w + windows) c → HasRoom new r w c

  -- ---- the room of the lists that are kept between searches; no public clause cites what follows
  -- no list has less room
  pub record Grows (old new : Scratch D) : Type 0 where
    pub found : vec_capacity old.found ≤ vec_capacity new.found
    pub last : vec_capacity old.last ≤ vec_capacity new.last
    pub reached : vec_capacity old.reached ≤ vec_capacity new.reached

  -- there is room for those rows of a tree that touch the one box, and to append those that don't touch the other
  pub record HasRoomToAppend (s : ShadowLists D) (rect except : Option (List Interval)) (scratch : Scratch D) : Type 0 where
    pub found : length scratch.found.items + count_by (is_new rect except) (rows_of s) ≤ vec_capacity scratch.found
    pub last : count_by (λ r. touches rect r.rect) (rows_of s) ≤ vec_capacity scratch.last
    pub reached : length s.nodes ≤ vec_capacity scratch.reached

  -- there is room for those rows of a tree that touch one of the boxes
  pub record HasRoomAround (s : ShadowLists D) (was is : Option (List Interval)) (scratch : Scratch D) : Type 0 where
    pub found : around was is (rows_by_id s) ≤ vec_capacity scratch.found
    pub last : around was is (rows_by_id s) ≤ vec_capacity scratch.last
    pub reached : length s.nodes ≤ vec_capacity scratch.reached

  -- the tree has no more nodes than `reached`, if there are fewer than `least - 1` rows for each
  abbrev pub HasFewNodes : ShadowLists D → Type 0
  HasFewNodes s = (reached least : ℕ) → least ≤ least_fill s.capacity → length (rows_by_id s) < reached * (least - 1) → length s.nodes ≤ reached
