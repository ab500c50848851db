-- What a call tells of the rows from a place on, and of the box around all rows (own).
use Rattle.std.specs.Prelude.{◌≡◌, ℕ, ◌*◌, ◌≤◌, ℤ, List, [], length, take, drop, All, Some, is_some, count_by}
use Rattle.std.specs.List.{list_any}
use Rattle.std.specs.Ordering.{int_eq}
use Rattle.rt_box.specs.declared.interval.Interval.{Interval}
use Rattle.rt_check.specs.Shadow.{ShadowLists}
use Rattle.rt_tree.specs.Bounds.{IsLeastAround}
use Rattle.rt_tree.specs.Lists.{TreeLists, box_of, rows_of}
use Rattle.rt_tree_walk.specs.declared.searching.Row.{Row}
use Rattle.rt_calls.specs.Buffers.{Copies, Sized}
use Rattle.rt_calls.specs.Numbers.{ids_of, numbers_of, box_numbers}
use Rattle.rt_calls.specs.declared.code.Code.{Code}
use Rattle.rt_calls.specs.declared.code.Code.TheVariants.{Done, BadLength, Empty}

module _ {D : ℕ} where
  -- the ids of the tree's rows in some order: as many as rows, none twice, and among them that of each row, and no other
  pub record IsOrder (s : ShadowLists D) (order : List ℤ) : Type 0 where
    pub count : length order ≡ length s.rows
    pub once : (id : ℤ) → count_by (int_eq id) order ≤ 1
    pub each : (id : ℤ) → list_any (int_eq id) order ≡ is_some (box_of s id)

  -- In the order of the tree's ids, which is a value of the tree: those from the place on are in the buffer, as many as there are or it
  -- has room for, and the number of rows is told.
  abbrev pub TellsIds : ℕ → List ℤ → List ℤ → ℕ → TreeLists D → Code → Type 0
  TellsIds from ids new_ids total tree Done =
      (total ≡ length tree.lists.rows) × IsOrder tree.lists tree.ids × Copies (take (length ids) (drop from tree.ids)) ids new_ids Done
  TellsIds from ids new_ids total tree code = ⊥

  -- the rows of the tree with these ids
  abbrev pub AreRowsOf : ShadowLists D → List ℤ → List (Row D) → Type 0
  AreRowsOf s ids rows = (ids_of rows ≡ ids) × All (λ r. box_of s r.id ≡ Some r.rect) rows

  -- the numbers of their boxes are in the buffer, row after row
  abbrev pub CopiesBoxesOf : ShadowLists D → List ℤ → List ℤ → List ℤ → Type 0
  CopiesBoxesOf s ids boxes new_boxes = (rows : List (Row D)) × AreRowsOf s ids rows × Copies (box_numbers rows) boxes new_boxes Done

  -- the same ids, and the numbers of their rows' boxes in the other buffer
  abbrev pub TellsRows : ℕ → List ℤ → List ℤ → List ℤ → List ℤ → ℕ → TreeLists D → Code → Type 0
  TellsRows from ids new_ids boxes new_boxes total tree Done = TellsIds from ids new_ids total tree Done ×
      CopiesBoxesOf tree.lists (take (length ids) (drop from tree.ids)) boxes new_boxes
  TellsRows from ids new_ids boxes new_boxes total tree code = ⊥

  -- if there is room for as many boxes as ids; else a length is wrong
  abbrev pub TellsRowsInto : ℕ → List ℤ → List ℤ → List ℤ → List ℤ → ℕ → TreeLists D → Code → Type 0
  TellsRowsInto from ids new_ids boxes new_boxes total tree code = Sized (length boxes) (length ids * (2 * D))
      (TellsRows from ids new_ids boxes new_boxes total tree code) (code ≡ BadLength)

  -- the numbers of the least box around all rows; or there are no rows
  abbrev pub TellsBounds : List ℤ → TreeLists D → Code → Type 0
  TellsBounds told tree Done = (rect : List Interval) × IsLeastAround (rows_of tree.lists) rect × (told ≡ numbers_of rect)
  TellsBounds told tree Empty = rows_of tree.lists ≡ []
  TellsBounds told tree code = ⊥

  -- the same, if the buffer is as long as such a box; else its length is wrong
  abbrev pub TellsBoundsInto : List ℤ → List ℤ → TreeLists D → Code → Type 0
  TellsBoundsInto before after tree code = Sized (length before) (2 * D) (TellsBounds after tree code) (code ≡ BadLength)
