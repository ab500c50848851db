-- What a call does to a tree, by its code (own).
use Rattle.std.specs.Prelude.{◌≡◌, ◌≢◌, ℕ, ◌*◌, ◌<◌, ◌≤◌, Bool, ℤ, ◌≤ℤ◌, List, [], length, take, drop, count_by, Option, Result, Ok, Err, Some, None, IsSome}
use Rattle.std.specs.List.{AllZip}
use Rattle.rt_box.specs.declared.interval.Interval.{Interval}
use Rattle.rt_box.specs.Capacity.{IsCapacity}
use Rattle.rt_box.specs.Rect.{los, his}
use Rattle.rt_check.specs.Shadow.{ShadowLists}
use Rattle.rt_check.specs.Conditions.{IsSound}
use Rattle.rt_check_dump.specs.declared.dump.AnyShadow.{AnyShadow}
use Rattle.rt_check_dump.specs.declared.dump.AnyShadow.TheVariants.{One, Two, Three}
use Rattle.rt_check_dump.specs.Dump.{shadow_text}
use Rattle.rt_check_dump.specs.Faults.{IsTextOf}
use Rattle.rt_handle.specs.declared.object.HeldTree.{HeldTree}
use Rattle.rt_handle.specs.declared.object.Object.{Object}
use Rattle.rt_handle.specs.declared.object.Object.TheVariants.{Line, Plane, Space}
use Rattle.rt_tree.specs.Lists.{TreeLists, IsInShape, empty_lists, box_of, rows_of, GainsRow, LosesRow}
use Rattle.rt_tree.specs.Changes.{IsInsertion, IsRemoval}
use Rattle.rt_tree.specs.Moving.{TakesRow, DropsRow}
use Rattle.rt_tree.specs.Replacing.{IsReplacement}
use Rattle.rt_map.specs.Restoring.{IsRestoredOf}
use Rattle.rt_tree_node.specs.Whole.{most_rows_of_a_tree}
use Rattle.rt_tree_node.specs.declared.arena.Work.{Work}
use Rattle.rt_tree_nearest.specs.Nearest.{nearest_rows}
use Rattle.rt_tree_walk.specs.declared.searching.Row.{Row}
use Rattle.rt_calls.specs.Calls.{IsTree}
use Rattle.rt_calls.specs.Buffers.{Copies, GivesText, Sized}
use Rattle.rt_calls.specs.Numbers.{ids_of, numbers_of, box_numbers}
use Rattle.rt_calls.specs.Relations.{FindsRelated, IsNumberOfRelation}
use Rattle.rt_calls.specs.declared.code.Code.{Code}
use Rattle.rt_calls.specs.declared.code.Code.TheVariants.{Done, BadCapacity, BadBox, IdTaken, IdMissing, BufferTooSmall, OutOfMemory, TreeFull, BadDump, BadLength, BadAxes, BadRelation}
use Rattle.rt_calls.specs.declared.relation.Relation.{Relation}

abbrev pub IsAxes : ℕ → Type 0
IsAxes axes = (1 ≤ axes) × (axes ≤ 3)

-- why there is no object whose nodes have that many cells at most
abbrev pub MakesNone : ℕ → Code → Type 0
MakesNone capacity BadCapacity = ¬ IsCapacity capacity
MakesNone capacity OutOfMemory = IsCapacity capacity
MakesNone capacity code = ⊥

-- why there is no tree of that many axes
abbrev pub MakesNoTree : ℕ → ℕ → Code → Type 0
MakesNoTree axes capacity BadAxes = ¬ IsAxes axes
MakesNoTree axes capacity BadCapacity = IsAxes axes × (¬ IsCapacity capacity)
MakesNoTree axes capacity OutOfMemory = IsAxes axes × IsCapacity capacity
MakesNoTree axes capacity code = ⊥

module _ {D : ℕ} where
  -- a tree of no rows whose nodes have that many cells at most
  abbrev pub IsEmptyTree : ℕ → TreeLists D → Type 0
  IsEmptyTree capacity tree = tree ≡ record { lists = empty_lists capacity; spare = 0; ids = [] }

  abbrev pub IsNew : ℕ → HeldTree D → Type 0
  IsNew capacity kept = (kept.capacity ≡ capacity) × IsEmptyTree capacity kept.tree

  abbrev pub Makes : ℕ → Result (HeldTree D) Code → Type 0
  Makes capacity (Ok kept) = IsNew capacity kept
  Makes capacity (Err code) = MakesNone capacity code

  -- The tree has exactly the rows of the shadow, ids and boxes: as many of either pass any test. It is the shadow, node by node,
  -- or it is packed of these rows; if the shadow's nodes stand in preorder and its row entries by rising id, it is the shadow.
  pub record HasRowsOf (s : ShadowLists D) (kept : HeldTree D) : Type 0 where
    pub rows : (test : Row D → Bool) → count_by test (rows_of kept.tree.lists) ≡ count_by test (rows_of s)
    pub restored : IsRestoredOf kept.tree.lists s
    pub again : IsInShape s → kept.tree.lists ≡ s
    pub most_cells : kept.tree.lists.capacity ≡ s.capacity
    pub capacity : kept.capacity ≡ s.capacity

-- the number of axes
abbrev pub TellsAxes : ℕ → ℕ → Code → Type 0
TellsAxes axes told Done = told ≡ axes
TellsAxes axes told code = ⊥

abbrev pub MakesTree : ℕ → ℕ → Result Object Code → Type 0
MakesTree axes capacity (Ok object) = IsTree axes (λ D. IsNew capacity) object
MakesTree axes capacity (Err code) = MakesNoTree axes capacity code

-- the number of axes of a shadow, its number of rows, and that the checker finds no problem in it
abbrev pub axes_of : AnyShadow → ℕ
axes_of (One s) = 1
axes_of (Two s) = 2
axes_of (Three s) = 3

abbrev pub row_count : AnyShadow → ℕ
row_count (One s) = length (rows_of s)
row_count (Two s) = length (rows_of s)
row_count (Three s) = length (rows_of s)

abbrev pub IsAnySound : AnyShadow → Type 0
IsAnySound (One s) = IsSound s
IsAnySound (Two s) = IsSound s
IsAnySound (Three s) = IsSound s

-- the object is a tree with the rows of the shadow
abbrev pub IsTreeOf : AnyShadow → Object → Type 0
IsTreeOf (One s) (Line kept) = HasRowsOf s kept
IsTreeOf (Two s) (Plane kept) = HasRowsOf s kept
IsTreeOf (Three s) (Space kept) = HasRowsOf s kept
IsTreeOf any object = ⊥

-- the text is the dump of the shadow, which has that many axes, and the checker finds no problem in it
abbrev pub IsSoundDump : ℕ → List ℕ → AnyShadow → Type 0
IsSoundDump axes text any = (axes_of any ≡ axes) × IsTextOf any text × IsAnySound any

-- the object is a tree with the rows of a shadow of which the text is the dump
abbrev pub IsOfDump : ℕ → List ℕ → Object → Type 0
IsOfDump axes text object = (any : AnyShadow) × IsSoundDump axes text any × IsTreeOf any object

-- Why there is no tree of the text: a tree has not that many axes, the text is the dump of no such shadow, or of one with more
-- rows than a tree may have, or no memory is left.
abbrev pub LoadsNone : ℕ → List ℕ → Code → Type 0
LoadsNone axes text BadAxes = ¬ IsAxes axes
LoadsNone axes text BadDump = IsAxes axes × ((any : AnyShadow) → ¬ IsSoundDump axes text any)
LoadsNone axes text TreeFull = (any : AnyShadow) × IsSoundDump axes text any × (most_rows_of_a_tree < row_count any)
LoadsNone axes text OutOfMemory = IsAxes axes
LoadsNone axes text code = ⊥

module _ {D : ℕ} where
  -- The row is inserted by the rules, in a tree of the same capacity. Or, in this order, the box has a least number above its
  -- greatest, the id is taken, there are as many rows as a tree may have, or no memory is left; the rows are then unchanged.
  abbrev pub Inserts : ℤ → List ℤ → List ℤ → TreeLists D → TreeLists D → Code → Type 0
  Inserts id min max old new Done =
      (rect : List Interval) × (los rect ≡ min) × (his rect ≡ max) × (box_of old.lists id ≡ None) × GainsRow old.lists new.lists id rect ×
      ((work : Work) × IsInsertion old.lists new.lists id rect work × TakesRow old.lists new.lists id rect work) ×
      (new.lists.capacity ≡ old.lists.capacity)
  Inserts id min max old new BadBox = (¬ AllZip ◌≤ℤ◌ min max) × (new ≡ old)
  Inserts id min max old new IdTaken = AllZip ◌≤ℤ◌ min max × IsSome (box_of old.lists id) × (new ≡ old)
  Inserts id min max old new TreeFull =
      AllZip ◌≤ℤ◌ min max × (box_of old.lists id ≡ None) × (most_rows_of_a_tree ≤ length old.lists.rows) × (new ≡ old)
  Inserts id min max old new OutOfMemory =
      AllZip ◌≤ℤ◌ min max × (box_of old.lists id ≡ None) × (length old.lists.rows < most_rows_of_a_tree) × (new.lists ≡ old.lists)
  Inserts id min max old new code = ⊥

  -- the row with that id gets the box by the rules, in a tree of the same capacity; if it has it already, the tree stays
  pub record MovesRow (old new : ShadowLists D) (id : ℤ) (rect : List Interval) : Type 0 where
    pub there : IsSome (box_of old id)
    pub same : box_of old id ≡ Some rect → new ≡ old
    pub other : box_of old id ≢ Some rect → IsReplacement old new id rect
    pub capacity : new.capacity ≡ old.capacity

  -- The row moves. Or, in this order, the box has a least number above its greatest, no row has the id, or no memory is
  -- left; the rows are then unchanged.
  abbrev pub Moves : ℤ → List ℤ → List ℤ → TreeLists D → TreeLists D → Code → Type 0
  Moves id min max old new Done = (rect : List Interval) × (los rect ≡ min) × (his rect ≡ max) × MovesRow old.lists new.lists id rect
  Moves id min max old new BadBox = (¬ AllZip ◌≤ℤ◌ min max) × (new ≡ old)
  Moves id min max old new IdMissing = AllZip ◌≤ℤ◌ min max × (box_of old.lists id ≡ None) × (new ≡ old)
  Moves id min max old new OutOfMemory = AllZip ◌≤ℤ◌ min max × IsSome (box_of old.lists id) × (new.lists ≡ old.lists)
  Moves id min max old new code = ⊥

  -- the row is removed by the rules, from a tree of the same capacity; or there was none, and nothing changes
  abbrev pub Removes : ℤ → TreeLists D → TreeLists D → Code → Type 0
  Removes id old new Done =
      (rect : List Interval) × LosesRow old.lists new.lists id rect × IsRemoval old.lists new.lists id rect ×
      DropsRow old.lists new.lists id rect × (new.lists.capacity ≡ old.lists.capacity)
  Removes id old new IdMissing = (box_of old.lists id ≡ None) × (new ≡ old)
  Removes id old new code = ⊥

  -- no row is left; or no memory is left for the new tree, and the rows are unchanged
  abbrev pub Clears : ℕ → TreeLists D → TreeLists D → Code → Type 0
  Clears capacity old new Done = IsEmptyTree capacity new
  Clears capacity old new OutOfMemory = new ≡ old
  Clears capacity old new code = ⊥

  -- Of the numbers of a box, first the least on each axis and then the greatest, the call says this of the two; or they are more
  -- or fewer, and nothing changes.
  abbrev pub OfBox : List ℤ → (List ℤ → List ℤ → TreeLists D → TreeLists D → Code → Type 0) → TreeLists D → TreeLists D → Code → Type 0
  OfBox numbers says old new code =
      Sized (length numbers) (2 * D) (says (take D numbers) (drop D numbers) old new code) ((code ≡ BadLength) × (new ≡ old))

  -- the number of rows
  abbrev pub Counts : ℕ → TreeLists D → Code → Type 0
  Counts rows tree Done = rows ≡ length tree.lists.rows
  Counts rows tree code = ⊥

  -- the numbers of the row's box; or there is no such row
  abbrev pub Gets : ℤ → List ℤ → TreeLists D → Code → Type 0
  Gets id told tree Done = (rect : List Interval) × (box_of tree.lists id ≡ Some rect) × (told ≡ numbers_of rect)
  Gets id told tree IdMissing = box_of tree.lists id ≡ None
  Gets id told tree code = ⊥

  -- the same, if the buffer is as long as such a box; else its length is wrong
  abbrev pub GetsInto : ℤ → List ℤ → List ℤ → TreeLists D → Code → Type 0
  GetsInto id before after tree code = Sized (length before) (2 * D) (Gets id after tree code) (code ≡ BadLength)

  -- how many rows lie so to the window; or no memory is left
  abbrev pub CountsRelated : ℕ → Relation → List ℤ → List ℤ → TreeLists D → Code → Type 0
  CountsRelated total relation min max tree Done = (rows : List (Row D)) × FindsRelated relation tree.lists min max rows × (total ≡ length rows)
  CountsRelated total relation min max tree OutOfMemory = Unit {0}
  CountsRelated total relation min max tree code = ⊥

  -- the ids of the rows are in the caller's buffer, and their number is told; or no memory is left
  abbrev pub Gives : List (Row D) → List ℤ → List ℤ → ℕ → ℕ → Code → Type 0
  Gives rows before after told total OutOfMemory = (after ≡ before) × (total ≡ told)
  Gives rows before after told total code = (total ≡ length rows) × Copies (ids_of rows) before after code

  -- the same of the rows that lie so to the window
  abbrev pub Searches : List ℤ → List ℤ → ℕ → ℕ → Relation → List ℤ → List ℤ → TreeLists D → Code → Type 0
  Searches before after told total relation min max tree OutOfMemory = (after ≡ before) × (total ≡ told)
  Searches before after told total relation min max tree code =
      (rows : List (Row D)) × FindsRelated relation tree.lists min max rows × Gives rows before after told total code

  -- The ids of the rows are in one buffer, and the numbers of their boxes in the other, row after row; both have room for as many
  -- rows. Or the rows are more, and both are as before; or no memory is left.
  abbrev pub GivesRows : List (Row D) → List ℤ → List ℤ → List ℤ → List ℤ → ℕ → ℕ → Code → Type 0
  GivesRows rows ids new_ids boxes new_boxes told total OutOfMemory = (new_ids ≡ ids) × (new_boxes ≡ boxes) × (total ≡ told)
  GivesRows rows ids new_ids boxes new_boxes told total BufferTooSmall =
      (total ≡ length rows) × Copies (ids_of rows) ids new_ids BufferTooSmall × (new_boxes ≡ boxes)
  GivesRows rows ids new_ids boxes new_boxes told total code =
      (total ≡ length rows) × Copies (ids_of rows) ids new_ids code × Copies (box_numbers rows) boxes new_boxes code

  -- the same of the rows that lie so to the window, if there is room for as many boxes as ids; else a length is wrong
  abbrev pub SearchesFitting : List ℤ → List ℤ → List ℤ → List ℤ → ℕ → ℕ → Relation → List ℤ → List ℤ → TreeLists D → Code → Type 0
  SearchesFitting ids new_ids boxes new_boxes told total relation min max tree OutOfMemory = (new_ids ≡ ids) × (new_boxes ≡ boxes) × (total ≡ told)
  SearchesFitting ids new_ids boxes new_boxes told total relation min max tree code =
      (rows : List (Row D)) × FindsRelated relation tree.lists min max rows × GivesRows rows ids new_ids boxes new_boxes told total code

  abbrev pub SearchesRows : List ℤ → List ℤ → List ℤ → List ℤ → ℕ → ℕ → Relation → List ℤ → List ℤ → TreeLists D → Code → Type 0
  SearchesRows ids new_ids boxes new_boxes told total relation min max tree code = Sized (length boxes) (length ids * (2 * D))
      (SearchesFitting ids new_ids boxes new_boxes told total relation min max tree code) (code ≡ BadLength)

  -- Of the number of a relation, and of the numbers of a window, the call says this; or the number is that of no relation; or they
  -- are more or fewer than the tree's axes ask for.
  abbrev pub OfRelation : Option Relation → List ℤ → (Relation → List ℤ → List ℤ → TreeLists D → Code → Type 0) → TreeLists D → Code → Type 0
  OfRelation None numbers says tree code = code ≡ BadRelation
  OfRelation (Some relation) numbers says tree code =
      Sized (length numbers) (2 * D) (says relation (take D numbers) (drop D numbers) tree code) (code ≡ BadLength)

  abbrev pub OfWindow : ℕ → List ℤ → (Relation → List ℤ → List ℤ → TreeLists D → Code → Type 0) → TreeLists D → Code → Type 0
  OfWindow number numbers says tree code = (relation : Option Relation) × IsNumberOfRelation number relation × OfRelation relation numbers says tree code

  -- the same of the rows nearest to the point, as many as there is room for, so that the buffers are never too short
  abbrev pub FindsNearest : List ℤ → List ℤ → List ℤ → List ℤ → List ℤ → ℕ → ℕ → TreeLists D → Code → Type 0
  FindsNearest point ids new_ids boxes new_boxes told total tree Done =
      GivesRows (nearest_rows point (length ids) (rows_of tree.lists)) ids new_ids boxes new_boxes told total Done
  FindsNearest point ids new_ids boxes new_boxes told total tree OutOfMemory = (new_ids ≡ ids) × (new_boxes ≡ boxes) × (total ≡ told)
  FindsNearest point ids new_ids boxes new_boxes told total tree code = ⊥

  -- if the point has a number for each axis, and there is room for as many boxes as ids; else a length is wrong
  abbrev pub FindsNearestRows : List ℤ → List ℤ → List ℤ → List ℤ → List ℤ → ℕ → ℕ → TreeLists D → Code → Type 0
  FindsNearestRows point ids new_ids boxes new_boxes told total tree code = Sized (length point) D
      (Sized (length boxes) (length ids * (2 * D)) (FindsNearest point ids new_ids boxes new_boxes told total tree code) (code ≡ BadLength))
      (code ≡ BadLength)

  -- the text of the tree's dump is in the caller's buffer, and its length is told
  abbrev pub Dumps : List ℕ → List ℕ → ℕ → ℕ → TreeLists D → Code → Type 0
  Dumps before after told total tree code = GivesText (shadow_text tree.lists) before after told total code
