-- What windows are told: which rows came into a window, left it, or moved inside of it. Source: own.
use Rattle.std.specs.Prelude.{ℕ, ℤ, Bool, true, false, ◌&&◌, List, [], ◌∷◌, Option, None, Some, if◌then◌else◌}
use Rattle.std.specs.List.{flat_map}
use Rattle.std.specs.Ordering.{int_eq}
use Rattle.rt_box.specs.declared.interval.Interval.{Interval}
use Rattle.rt_tree_join.specs.Join.{touch}
use Rattle.rt_tree_walk.specs.declared.searching.Row.{Row}
use Rattle.rt_live.specs.declared.change.Kind.{Kind}
use Rattle.rt_live.specs.declared.change.Kind.TheVariants.{Left, Came, Moved}
use Rattle.rt_live.specs.declared.change.Change.{Change}

-- a box is there and touches the other: they have a common point, be it on an edge
abbrev pub touches : Option (List Interval) → List Interval → Bool
touches None other = false
touches (Some rect) other = touch rect other

-- two boxes are the same
abbrev pub same_box : List Interval → List Interval → Bool
same_box [] [] = true
same_box [] (j ∷ b) = false
same_box (i ∷ a) [] = false
same_box (i ∷ a) (j ∷ b) = (int_eq i.lo j.lo && int_eq i.hi j.hi) && same_box a b

-- the box is the one that was there
abbrev pub stays : Option (List Interval) → Option (List Interval) → Bool
stays None None = true
stays None (Some rect) = false
stays (Some rect) None = false
stays (Some rect) (Some other) = same_box rect other

-- what a window is told of a row that was edited, by whether it touched the window before and touches it after
abbrev pub told_of_row : Bool → Bool → Option Kind
told_of_row true true = Some Moved
told_of_row true false = Some Left
told_of_row false true = Some Came
told_of_row false false = None

-- what a window that was edited is told of a row: one that is still in it isn't told
abbrev pub told_of_window : Bool → Bool → Option Kind
told_of_window true true = None
told_of_window true false = Some Left
told_of_window false true = Some Came
told_of_window false false = None

abbrev pub listed : ℤ → ℤ → Option Kind → List Change
listed window id None = []
listed window id (Some kind) = record { window = window; id = id; kind = kind } ∷ []

module _ {D : ℕ} where
  -- a row at the id had the one box and has the other: what each window is told, in the order of the windows
  abbrev pub told_each : List (Row D) → ℤ → Option (List Interval) → Option (List Interval) → List Change
  told_each windows id was is = flat_map (λ w. listed w.id id (told_of_row (touches was w.rect) (touches is w.rect))) windows

  -- nothing is told of a box that stays
  abbrev pub row_changes : List (Row D) → ℤ → Option (List Interval) → Option (List Interval) → List Change
  row_changes windows id was is = if stays was is then [] else told_each windows id was is

  -- the window had the one box and has the other: what it is told of each row, in the order of the rows
  abbrev pub window_changes : List (Row D) → ℤ → Option (List Interval) → Option (List Interval) → List Change
  window_changes rows window was is = flat_map (λ r. listed window r.id (told_of_window (touches was r.rect) (touches is r.rect))) rows
