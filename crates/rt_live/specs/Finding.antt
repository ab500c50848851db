-- Rows that are found in a list, in any order; the box around two boxes, and the strips between them (own). No public clause
-- cites this module.
use Rattle.std.specs.Prelude.{◌≡◌, ℕ, ◌+◌, ℤ, Bool, true, is_some, not, ◌&&◌, ◌||◌, IfSome, List, Option, filter, count_by}
use Rattle.std.specs.Int.{int_min, int_max}
use Rattle.rt_box.specs.declared.interval.Interval.{Interval}
use Rattle.rt_box.specs.Rect.{IsBox}
use Rattle.rt_check.specs.Shadow.{ShadowLists}
use Rattle.rt_tree_join.specs.Join.{touch}
use Rattle.rt_tree_walk.specs.declared.searching.Row.{Row}
use Rattle.rt_tree.specs.Lists.{rows_of}
use Rattle.rt_live.specs.declared.finding.Scratch.{Scratch}
use Rattle.rt_live.specs.Rows.{rows_by_id}
use Rattle.rt_live.specs.Changes.{touches, told_of_window}

-- what touches one of the boxes touches the hull
abbrev pub Encloses : Option (List Interval) → Option (List Interval) → List Interval → Type 0
Encloses was is hull = (other : List Interval) → (touches was other || touches is other) ≡ true → touch hull other ≡ true

-- a window that had the one box and has the other is told of a row with this box
abbrev pub is_told_of : Option (List Interval) → Option (List Interval) → List Interval → Bool
is_told_of was is other = is_some (told_of_window (touches was other) (touches is other))

-- the interval between two ends
abbrev pub between : ℤ → ℤ → Interval
between end other = record { lo = int_min end other; hi = int_max end other }

-- what a window that had the one box and has the other is told of touches one of two strips
abbrev pub CoversTold : ℕ → Option (List Interval) → Option (List Interval) → List Interval → List Interval → Type 0
CoversTold axes was is low high = (other : List Interval) → IsBox axes other → is_told_of was is other ≡ true → (touch low other || touch high other) ≡ true

module _ {D : ℕ} where
  -- the row doesn't touch the box
  abbrev pub is_apart : Option (List Interval) → Row D → Bool
  is_apart rect r = not (touches rect r.rect)

  -- the row touches the one box, and not the other
  abbrev pub is_new : Option (List Interval) → Option (List Interval) → Row D → Bool
  is_new rect except r = touches rect r.rect && is_apart except r

  -- the row touches one of the boxes
  abbrev pub touches_either : Option (List Interval) → Option (List Interval) → Row D → Bool
  touches_either was is r = touches was r.rect || touches is r.rect

  -- a window that had the one box and has the other is told of the row
  abbrev pub is_told : Option (List Interval) → Option (List Interval) → Row D → Bool
  is_told was is r = is_told_of was is r.rect

  -- the row touches the box
  abbrev pub touches_hull : List Interval → Row D → Bool
  touches_hull hull r = touch hull r.rect

  -- if a box is noted, these are the rows of a tree that touch it, by rising id
  abbrev pub IsNear : ShadowLists D → Option (List Interval) → List (Row D) → Type 0
  IsNear s near rows = IfSome near (λ hull. rows ≡ filter (touches_hull hull) (rows_by_id s))

  -- the rows that pass were appended: as many more pass any other test
  pub record Appends (rows : List (Row D)) (pass : Row D → Bool) (old new : List (Row D)) : Type 0 where
    pub each : (test : Row D → Bool) → count_by test new ≡ count_by test old + count_by (λ r. pass r && test r) rows

  -- of the rows of a tree, those were appended to what was found that touch the one box and not the other
  abbrev pub AppendsNew : ShadowLists D → Option (List Interval) → Option (List Interval) → Scratch D → Scratch D → Type 0
  AppendsNew s rect except old new = Appends (rows_of s) (is_new rect except) old.found.items new.found.items

  -- the rows of a tree that touch one of the boxes, by rising id
  abbrev pub rows_around : ShadowLists D → Option (List Interval) → Option (List Interval) → List (Row D)
  rows_around s was is = filter (touches_either was is) (rows_by_id s)
