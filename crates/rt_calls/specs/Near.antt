-- What a call tells of the rows near a point or a box (own).
use Rattle.std.specs.Prelude.{◌≡◌, ℕ, ◌*◌, ℤ, ◌≤ℤ◌, List, length, take, drop}
use Rattle.std.specs.List.{AllZip}
use Rattle.rt_box.specs.declared.interval.Interval.{Interval}
use Rattle.rt_box.specs.Rect.{los, his}
use Rattle.rt_tree.specs.Lists.{TreeLists, rows_of}
use Rattle.rt_tree_nearest.specs.Nearest.{rows_within, nearest_rows_to}
use Rattle.rt_tree_walk.specs.declared.searching.Row.{Row}
use Rattle.rt_calls.specs.Buffers.{Sized}
use Rattle.rt_calls.specs.Trees.{GivesRows}
use Rattle.rt_calls.specs.declared.code.Code.{Code}
use Rattle.rt_calls.specs.declared.code.Code.TheVariants.{Done, BadBox, OutOfMemory, BadLength}

module _ {D : ℕ} where
  -- the rows are in the caller's buffers, which are never too short for them; or no memory is left, and nothing changes
  abbrev pub GivesNear : List (Row D) → List ℤ → List ℤ → List ℤ → List ℤ → ℕ → ℕ → Code → Type 0
  GivesNear rows ids new_ids boxes new_boxes told total Done = GivesRows rows ids new_ids boxes new_boxes told total Done
  GivesNear rows ids new_ids boxes new_boxes told total OutOfMemory = (new_ids ≡ ids) × (new_boxes ≡ boxes) × (total ≡ told)
  GivesNear rows ids new_ids boxes new_boxes told total code = ⊥

  -- of the rows within the distance of the point the nearest, as many as there is room for
  abbrev pub FindsWithin : List ℤ → ℕ → List ℤ → List ℤ → List ℤ → List ℤ → ℕ → ℕ → TreeLists D → Code → Type 0
  FindsWithin point distance ids new_ids boxes new_boxes told total tree code =
      GivesNear (rows_within point distance (length ids) (rows_of tree.lists)) ids new_ids boxes new_boxes told total code

  -- if the point has a number for each axis, and there is room for as many boxes as ids; else a length is wrong
  abbrev pub FindsWithinRows : List ℤ → ℕ → List ℤ → List ℤ → List ℤ → List ℤ → ℕ → ℕ → TreeLists D → Code → Type 0
  FindsWithinRows point distance ids new_ids boxes new_boxes told total tree code = Sized (length point) D
      (Sized (length boxes) (length ids * (2 * D)) (FindsWithin point distance ids new_ids boxes new_boxes told total tree code) (code ≡ BadLength))
      (code ≡ BadLength)

  -- the rows nearest to the box from min to max, as many as there is room for; or the box has a least number above its greatest
  abbrev pub FindsNearTo : List ℤ → List ℤ → List ℤ → List ℤ → List ℤ → List ℤ → ℕ → ℕ → TreeLists D → Code → Type 0
  FindsNearTo min max ids new_ids boxes new_boxes told total tree BadBox = ¬ AllZip ◌≤ℤ◌ min max
  FindsNearTo min max ids new_ids boxes new_boxes told total tree code = (rect : List Interval) × (los rect ≡ min) × (his rect ≡ max) ×
      GivesNear (nearest_rows_to rect (length ids) (rows_of tree.lists)) ids new_ids boxes new_boxes told total code

  -- if the box has two numbers for each axis, and there is room for as many boxes as ids; else a length is wrong
  abbrev pub FindsRowsNearTo : List ℤ → List ℤ → List ℤ → List ℤ → List ℤ → ℕ → ℕ → TreeLists D → Code → Type 0
  FindsRowsNearTo box ids new_ids boxes new_boxes told total tree code = Sized (length box) (2 * D)
      (Sized (length boxes) (length ids * (2 * D))
      (FindsNearTo (take D box) (drop D box) ids new_ids boxes new_boxes told total tree code) (code ≡ BadLength))
      (code ≡ BadLength)
