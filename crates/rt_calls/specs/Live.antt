-- What a call does to live windows, by its code (own).
use Rattle.std.specs.Prelude.{◌≡◌, ℕ, ◌*◌, ◌≤◌, ℤ, ◌≤ℤ◌, List, length, map, take, drop, Option, Result, Ok, Err, Some, None, IsSome}
use Rattle.std.specs.List.{AllZip}
use Rattle.rt_box.specs.declared.interval.Interval.{Interval}
use Rattle.rt_box.specs.Capacity.{IsCapacity}
use Rattle.rt_box.specs.Rect.{los, his}
use Rattle.rt_handle.specs.declared.object.AnyLive.{AnyLive}
use Rattle.rt_handle.specs.declared.object.AnyLive.TheVariants.{Line, Plane, Space}
use Rattle.rt_handle.specs.declared.object.HeldLive.{HeldLive}
use Rattle.rt_handle.specs.declared.object.Object.{Object}
use Rattle.rt_handle.specs.declared.object.Object.TheVariants.{Live as ALive}
use Rattle.rt_live.specs.Live.{LiveLists, LiveState, empty, with_row, with_window, seen}
use Rattle.rt_live.specs.Rows.{box_at}
use Rattle.rt_live.specs.declared.change.Change.{Change}
use Rattle.rt_live.specs.declared.change.Kind.{Kind}
use Rattle.rt_live.specs.declared.change.Kind.TheVariants.{Left, Came, Moved}
use Rattle.rt_tree.specs.Lists.{TreeLists}
use Rattle.rt_tree_node.specs.Whole.{most_rows_of_a_tree}
use Rattle.rt_tree_walk.specs.declared.searching.Row.{Row}
use Rattle.rt_calls.specs.Buffers.{Copies, Sized}
use Rattle.rt_calls.specs.Calls.{Answers, IsTreeOfRows}
use Rattle.rt_calls.specs.Codes.{number_of}
use Rattle.rt_calls.specs.Places.{TellsRowsInto}
use Rattle.rt_calls.specs.Trees.{IsAxes, MakesNone, MakesNoTree}
use Rattle.rt_calls.specs.declared.code.Code.{Code}
use Rattle.rt_calls.specs.declared.code.Code.TheVariants.{Done, Closed, OtherKind, BadBox, IdTaken, IdMissing, OutOfMemory, TreeFull, BadLength}

-- of live windows of as many axes before and after, the call says this; and their keys stay
abbrev pub OnAxes : AnyLive → AnyLive → ((D : ℕ) → LiveState D → LiveState D → Code → Type 0) → Code → Type 0
OnAxes (Line old) (Line new) says code = (new.keys ≡ old.keys) × says 1 old.live new.live code
OnAxes (Plane old) (Plane new) says code = (new.keys ≡ old.keys) × says 2 old.live new.live code
OnAxes (Space old) (Space new) says code = (new.keys ≡ old.keys) × says 3 old.live new.live code
OnAxes old new says code = ⊥

-- of a handle that holds live windows the call says this, and leaves them so; else the handle is as before
abbrev pub OnLive : Option Object → Option Object → ((D : ℕ) → LiveState D → LiveState D → Code → Type 0) → ℤ → Type 0
OnLive None new says number = (number ≡ number_of Closed) × (new ≡ None)
OnLive (Some (ALive old)) new says number = (live : AnyLive) × (new ≡ Some (ALive live)) × Answers number (OnAxes old live says)
OnLive (Some other) new says number = (number ≡ number_of OtherKind) × (new ≡ Some other)

-- of live windows a call that reads says this
abbrev pub OfAxes : AnyLive → ((D : ℕ) → LiveLists D → Code → Type 0) → Code → Type 0
OfAxes (Line held) says code = says 1 held.live.lists code
OfAxes (Plane held) says code = says 2 held.live.lists code
OfAxes (Space held) says code = says 3 held.live.lists code

-- of a handle that holds live windows a call that reads says this
abbrev pub OfLive : Option Object → ((D : ℕ) → LiveLists D → Code → Type 0) → ℤ → Type 0
OfLive None says number = number ≡ number_of Closed
OfLive (Some (ALive live)) says number = Answers number (OfAxes live says)
OfLive (Some other) says number = number ≡ number_of OtherKind

-- there are no rows and no windows, of that many axes
abbrev pub IsNewLive : ℕ → AnyLive → Type 0
IsNewLive axes (Line held) = (axes ≡ 1) × (held.live.lists ≡ empty)
IsNewLive axes (Plane held) = (axes ≡ 2) × (held.live.lists ≡ empty)
IsNewLive axes (Space held) = (axes ≡ 3) × (held.live.lists ≡ empty)

abbrev pub IsLive : (AnyLive → Type 0) → Object → Type 0
IsLive says (ALive live) = says live
IsLive says other = ⊥

abbrev pub MakesNew : {D : ℕ} → ℕ → Result (HeldLive D) Code → Type 0
MakesNew capacity (Ok held) = IsCapacity capacity × (held.live.lists ≡ empty)
MakesNew capacity (Err code) = MakesNone capacity code

abbrev pub MakesLive : ℕ → ℕ → Result Object Code → Type 0
MakesLive axes capacity (Ok object) = IsAxes axes × IsCapacity capacity × IsLive (IsNewLive axes) object
MakesLive axes capacity (Err code) = MakesNoTree axes capacity code

module _ {D : ℕ} where
  -- The call makes this of rows and windows, and tells how many changes that makes.
  abbrev pub Tells : LiveLists D → ℕ → LiveState D → Type 0
  Tells made changes new = (new.lists ≡ made) × (changes ≡ length made.changes)

  -- Rows, windows and the last changes are as before. There may be more room.
  abbrev pub Stays : LiveState D → LiveState D → Type 0
  Stays old new = new.lists ≡ old.lists

  -- A box comes to an id at which none of these stood. Or, in this order, it has a least number above its greatest, the id is taken,
  -- there are as many as there may be, or no memory is left.
  abbrev pub Comes : List (Row D) → ℤ → (Option (List Interval) → LiveLists D) → ℕ → List ℤ → List ℤ →
      LiveState D → LiveState D → Code → Type 0
  Comes there id with_box changes min max old new Done = (rect : List Interval) × (los rect ≡ min) × (his rect ≡ max) ×
      (box_at there id ≡ None) × Tells (with_box (Some rect)) changes new
  Comes there id with_box changes min max old new BadBox = (¬ AllZip ◌≤ℤ◌ min max) × Stays old new
  Comes there id with_box changes min max old new IdTaken = AllZip ◌≤ℤ◌ min max × IsSome (box_at there id) × Stays old new
  Comes there id with_box changes min max old new TreeFull =
      AllZip ◌≤ℤ◌ min max × (box_at there id ≡ None) × (most_rows_of_a_tree ≤ length there) × Stays old new
  Comes there id with_box changes min max old new OutOfMemory =
      AllZip ◌≤ℤ◌ min max × (box_at there id ≡ None) × Stays old new
  Comes there id with_box changes min max old new code = ⊥

  -- A box comes to an id in place of another. Or, in this order, it has a least number above its greatest, no box stands at the id, or
  -- no memory is left.
  abbrev pub Replaces : List (Row D) → ℤ → (Option (List Interval) → LiveLists D) → ℕ → List ℤ → List ℤ →
      LiveState D → LiveState D → Code → Type 0
  Replaces there id with_box changes min max old new Done = (rect : List Interval) × (los rect ≡ min) × (his rect ≡ max) ×
      IsSome (box_at there id) × Tells (with_box (Some rect)) changes new
  Replaces there id with_box changes min max old new BadBox = (¬ AllZip ◌≤ℤ◌ min max) × Stays old new
  Replaces there id with_box changes min max old new IdMissing = AllZip ◌≤ℤ◌ min max × (box_at there id ≡ None) × Stays old new
  Replaces there id with_box changes min max old new OutOfMemory = AllZip ◌≤ℤ◌ min max × IsSome (box_at there id) × Stays old new
  Replaces there id with_box changes min max old new code = ⊥

  -- A box leaves its id. Or none stands there, or no memory is left.
  abbrev pub Leaves : List (Row D) → ℤ → (Option (List Interval) → LiveLists D) → ℕ → LiveState D → LiveState D → Code → Type 0
  Leaves there id with_box changes old new Done = IsSome (box_at there id) × Tells (with_box None) changes new
  Leaves there id with_box changes old new IdMissing = (box_at there id ≡ None) × Stays old new
  Leaves there id with_box changes old new OutOfMemory = IsSome (box_at there id) × Stays old new
  Leaves there id with_box changes old new code = ⊥

  -- the edits of a row, and of a window
  abbrev pub RowComes : ℤ → ℕ → List ℤ → List ℤ → LiveState D → LiveState D → Code → Type 0
  RowComes id changes min max old = Comes old.lists.rows id (with_row old.lists id) changes min max old

  abbrev pub RowMoves : ℤ → ℕ → List ℤ → List ℤ → LiveState D → LiveState D → Code → Type 0
  RowMoves id changes min max old = Replaces old.lists.rows id (with_row old.lists id) changes min max old

  abbrev pub RowLeaves : ℤ → ℕ → LiveState D → LiveState D → Code → Type 0
  RowLeaves id changes old = Leaves old.lists.rows id (with_row old.lists id) changes old

  abbrev pub WindowComes : ℤ → ℕ → List ℤ → List ℤ → LiveState D → LiveState D → Code → Type 0
  WindowComes window changes min max old = Comes old.lists.windows window (with_window old.lists window) changes min max old

  abbrev pub WindowMoves : ℤ → ℕ → List ℤ → List ℤ → LiveState D → LiveState D → Code → Type 0
  WindowMoves window changes min max old = Replaces old.lists.windows window (with_window old.lists window) changes min max old

  abbrev pub WindowLeaves : ℤ → ℕ → LiveState D → LiveState D → Code → Type 0
  WindowLeaves window changes old = Leaves old.lists.windows window (with_window old.lists window) changes old

  -- Of the numbers of a box, first the least on each axis and then the greatest, the call says this of the two; or they are more
  -- or fewer, and nothing changes.
  abbrev pub WithBox : List ℤ → (List ℤ → List ℤ → LiveState D → LiveState D → Code → Type 0) → LiveState D → LiveState D → Code → Type 0
  WithBox numbers says old new code =
      Sized (length numbers) (2 * D) (says (take D numbers) (drop D numbers) old new code) ((code ≡ BadLength) × Stays old new)

  -- there is room for these numbers of rows, windows and changes more; or no memory is left
  abbrev pub Reserves : ℕ → ℕ → ℕ → LiveState D → LiveState D → Code → Type 0
  Reserves rows windows changes old new Done =
      Stays old new × (rows ≤ new.row_room) × (windows ≤ new.window_room) × (changes ≤ new.change_room)
  Reserves rows windows changes old new OutOfMemory = Stays old new
  Reserves rows windows changes old new code = ⊥

abbrev pub number_of_kind : Kind → ℕ
number_of_kind Left = 0
number_of_kind Came = 1
number_of_kind Moved = 2

abbrev pub windows_of : List Change → List ℤ
windows_of changes = map (λ c. c.window) changes

abbrev pub changed_ids : List Change → List ℤ
changed_ids changes = map (λ c. c.id) changes

abbrev pub kinds_of : List Change → List ℕ
kinds_of changes = map (λ c. number_of_kind c.kind) changes

-- Of each change the window, the row and the kind stand at one place of three buffers, in the order of the changes, and their number is
-- told; or there is no room for them all, and the buffers are as before.
abbrev pub GivesChanges : List ℤ → List ℤ → List ℤ → List ℤ → List ℕ → List ℕ → ℕ → List Change → Code → Type 0
GivesChanges windows new_windows ids new_ids kinds new_kinds total changes code = (total ≡ length changes) ×
    Copies (windows_of changes) windows new_windows code × Copies (changed_ids changes) ids new_ids code ×
    Copies (kinds_of changes) kinds new_kinds code

module _ {D : ℕ} where
  -- the same of the changes of the last edit, if the buffers have one length; else a length is wrong
  abbrev pub TellsChanges : List ℤ → List ℤ → List ℤ → List ℤ → List ℕ → List ℕ → ℕ → LiveLists D → Code → Type 0
  TellsChanges windows new_windows ids new_ids kinds new_kinds total live code = Sized (length ids) (length windows)
      (Sized (length kinds) (length windows)
      (GivesChanges windows new_windows ids new_ids kinds new_kinds total live.changes code) (code ≡ BadLength))
      (code ≡ BadLength)

  -- the ids of the rows that the window sees are in the buffer, and their number is told; or there is no such window, or no memory is left
  abbrev pub TellsSeen : ℤ → List ℤ → List ℤ → ℕ → LiveLists D → Code → Type 0
  TellsSeen window ids new_ids total live IdMissing = box_at live.windows window ≡ None
  TellsSeen window ids new_ids total live OutOfMemory = IsSome (box_at live.windows window)
  TellsSeen window ids new_ids total live code = IsSome (box_at live.windows window) ×
      (total ≡ length (seen live window)) × Copies (seen live window) ids new_ids code

  -- of a tree whose rows are the windows, the same as juicedelta_tree_rows tells of a tree
  abbrev pub TellsWindows : ℕ → List ℤ → List ℤ → List ℤ → List ℤ → ℕ → LiveLists D → Code → Type 0
  TellsWindows from ids new_ids boxes new_boxes total live code =
      (tree : TreeLists D) × IsTreeOfRows live.windows tree × TellsRowsInto from ids new_ids boxes new_boxes total tree code
