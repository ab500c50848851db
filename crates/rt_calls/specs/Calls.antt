-- What a call does to what a handle holds, by the number that it answers (own).
use Rattle.std.specs.Prelude.{◌≡◌, ℕ, ℤ, List, Option, Some, None, Result, Ok, Err}
use Rattle.rt_live.specs.Rows.{rows_by_id}
use Rattle.rt_tree.specs.Lists.{TreeLists, IsInShape}
use Rattle.rt_tree_walk.specs.declared.searching.Row.{Row}
use Rattle.rt_handle.specs.declared.object.AnyLive.{AnyLive}
use Rattle.rt_handle.specs.declared.object.AnyLive.TheVariants.{Line as LiveLine, Plane as LivePlane, Space as LiveSpace}
use Rattle.rt_handle.specs.declared.object.Object.{Object}
use Rattle.rt_handle.specs.declared.object.Object.TheVariants.{Script as AScript, Line, Plane, Space, Live as ALive}
use Rattle.rt_handle.specs.declared.object.HeldTree.{HeldTree}
use Rattle.rt_handle.specs.declared.object.Script.{Script}
use Rattle.rt_calls.specs.declared.lending.AnyTree.{AnyTree}
use Rattle.rt_calls.specs.declared.lending.AnyTree.TheVariants.{Line as LentLine, Plane as LentPlane, Space as LentSpace}
use Rattle.rt_calls.specs.declared.code.Code.{Code}
use Rattle.rt_calls.specs.declared.code.Code.TheVariants.{Done, Closed, OtherKind, AlreadyOpen, OutOfMemory}
use Rattle.rt_calls.specs.Codes.{number_of}

-- the number is that of a code of which this holds
abbrev pub Answers : ℤ → (Code → Type 0) → Type 0
Answers number says = (code : Code) × (number ≡ number_of code) × says code

-- a closed handle holds such an object now, or is closed as before; an open one is as before
abbrev pub Opens : Option Object → Option Object → (Object → Type 0) → (Code → Type 0) → ℤ → Type 0
Opens None (Some object) made refused number = (number ≡ number_of Done) × made object
Opens None None made refused number = Answers number refused
Opens (Some object) new made refused number = (number ≡ number_of AlreadyOpen) × (new ≡ Some object)

-- the handle holds the object; or there is no memory, and it is closed
abbrev pub Fills : Object → Option Object → Code → Type 0
Fills object new Done = new ≡ Some object
Fills object new OutOfMemory = new ≡ None
Fills object new code = ⊥

-- an open handle is closed now
abbrev pub Closes : Option Object → Option Object → ℤ → Type 0
Closes None new number = (number ≡ number_of Closed) × (new ≡ None)
Closes (Some object) new number = (number ≡ number_of Done) × (new ≡ None)

-- of a handle that holds a tree the call says this, and leaves the tree so; else the handle is as before
abbrev pub OnTree : Option Object → Option Object → ((D : ℕ) → HeldTree D → TreeLists D → Code → Type 0) → ℤ → Type 0
OnTree None new says number = (number ≡ number_of Closed) × (new ≡ None)
OnTree (Some (Line old)) new says number = (tree : TreeLists 1) × (new ≡ Some (Line (record old { tree = tree }))) × Answers number (says 1 old tree)
OnTree (Some (Plane old)) new says number = (tree : TreeLists 2) × (new ≡ Some (Plane (record old { tree = tree }))) × Answers number (says 2 old tree)
OnTree (Some (Space old)) new says number = (tree : TreeLists 3) × (new ≡ Some (Space (record old { tree = tree }))) × Answers number (says 3 old tree)
OnTree (Some other) new says number = (number ≡ number_of OtherKind) × (new ≡ Some other)

-- a sound tree that has exactly these rows, which stand by rising id
pub record IsTreeOfRows {D : ℕ} (rows : List (Row D)) (tree : TreeLists D) : Type 0 where
  pub shape : IsInShape tree.lists
  pub has : rows_by_id tree.lists ≡ rows

-- of live windows a tree is lent that has their rows
abbrev pub LendsRows : AnyLive → AnyTree → Type 0
LendsRows (LiveLine held) (LentLine lent) = IsTreeOfRows held.live.lists.rows lent.tree.now
LendsRows (LivePlane held) (LentPlane lent) = IsTreeOfRows held.live.lists.rows lent.tree.now
LendsRows (LiveSpace held) (LentSpace lent) = IsTreeOfRows held.live.lists.rows lent.tree.now
LendsRows live lent = ⊥

-- What a call that reads finds in a handle: the tree; of live windows a tree of their rows; or why there is no tree.
abbrev pub Lends : Option Object → Result AnyTree Code → Type 0
Lends None (Err code) = code ≡ Closed
Lends (Some (AScript script)) (Err code) = code ≡ OtherKind
Lends (Some (Line kept)) (Ok (LentLine lent)) = lent.tree.now ≡ kept.tree
Lends (Some (Plane kept)) (Ok (LentPlane lent)) = lent.tree.now ≡ kept.tree
Lends (Some (Space kept)) (Ok (LentSpace lent)) = lent.tree.now ≡ kept.tree
Lends (Some (ALive live)) (Ok lent) = LendsRows live lent
Lends held lent = ⊥

-- of what was found a call that reads says this
abbrev pub OfLent : Result AnyTree Code → ((D : ℕ) → TreeLists D → Code → Type 0) → ℤ → Type 0
OfLent (Err code) says number = number ≡ number_of code
OfLent (Ok (LentLine lent)) says number = Answers number (says 1 lent.tree.now)
OfLent (Ok (LentPlane lent)) says number = Answers number (says 2 lent.tree.now)
OfLent (Ok (LentSpace lent)) says number = Answers number (says 3 lent.tree.now)

-- of a handle that holds a tree, or live windows, a call that reads says this of the tree, or of a tree of their rows
abbrev pub OfTree : Option Object → ((D : ℕ) → TreeLists D → Code → Type 0) → ℤ → Type 0
OfTree held says number = (lent : Result AnyTree Code) × Lends held lent × OfLent lent says number

-- the object is a tree of that many axes of which this holds
abbrev pub IsTree : ℕ → ((D : ℕ) → HeldTree D → Type 0) → Object → Type 0
IsTree axes says (Line kept) = (axes ≡ 1) × says 1 kept
IsTree axes says (Plane kept) = (axes ≡ 2) × says 2 kept
IsTree axes says (Space kept) = (axes ≡ 3) × says 3 kept
IsTree axes says other = ⊥

-- of a handle that holds a script shell the call says this of the shell before and after; else the handle is as before
abbrev pub OnScript : Option Object → Option Object → (Script → Script → Code → Type 0) → ℤ → Type 0
OnScript None new says number = (number ≡ number_of Closed) × (new ≡ None)
OnScript (Some (AScript old)) new says number = (script : Script) × (new ≡ Some (AScript script)) × Answers number (says old script)
OnScript (Some other) new says number = (number ≡ number_of OtherKind) × (new ≡ Some other)

-- of a handle that holds a script shell a call that reads says this
abbrev pub OfScript : Option Object → (Script → Code → Type 0) → ℤ → Type 0
OfScript None says number = number ≡ number_of Closed
OfScript (Some (AScript script)) says number = Answers number (says script)
OfScript (Some other) says number = number ≡ number_of OtherKind

abbrev pub IsScript : (Script → Type 0) → Object → Type 0
IsScript says (AScript script) = says script
IsScript says other = ⊥
