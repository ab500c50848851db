-- What a call tells of the pairs of rows whose boxes touch (own).
use Rattle.std.specs.Prelude.{◌≡◌, ℕ, ℤ, List, length, map, Option, Some, None, Result, Ok, Err}
use Rattle.rt_map.specs.Join.{JoinsIn, JoinsItselfIn}
use Rattle.rt_tree.specs.Lists.{TreeLists}
use Rattle.rt_tree_join.specs.declared.joining.Pair.{Pair}
use Rattle.rt_handle.specs.declared.object.Object.{Object}
use Rattle.rt_calls.specs.Buffers.{Copies, Sized}
use Rattle.rt_calls.specs.Calls.{Answers, Lends}
use Rattle.rt_calls.specs.Codes.{number_of}
use Rattle.rt_calls.specs.declared.lending.AnyTree.{AnyTree}
use Rattle.rt_calls.specs.declared.lending.AnyTree.TheVariants.{Line as LentLine, Plane as LentPlane, Space as LentSpace}
use Rattle.rt_calls.specs.declared.code.Code.{Code}
use Rattle.rt_calls.specs.declared.code.Code.TheVariants.{Closed, OutOfMemory, BadLength, BadAxes}

abbrev pub left_ids : List Pair → List ℤ
left_ids pairs = map (λ p. p.left) pairs

abbrev pub right_ids : List Pair → List ℤ
right_ids pairs = map (λ p. p.right) pairs

-- the ids of each pair stand at one place of two buffers, and the number of pairs is told; or there is no room for them all, and
-- both buffers are as before
abbrev pub GivesPairs : List Pair → List ℤ → List ℤ → List ℤ → List ℤ → ℕ → Code → Type 0
GivesPairs pairs left new_left right new_right total code =
    (total ≡ length pairs) × Copies (left_ids pairs) left new_left code × Copies (right_ids pairs) right new_right code

-- Of what was found in two handles the call says that one has no tree, or else that the trees have different numbers of axes; of two
-- trees with as many axes it says this.
abbrev pub OfLentBoth : Result AnyTree Code → Result AnyTree Code → ((D : ℕ) → TreeLists D → TreeLists D → Code → Type 0) → ℤ → Type 0
OfLentBoth (Err code) other says number = number ≡ number_of code
OfLentBoth (Ok one) (Err code) says number = number ≡ number_of code
OfLentBoth (Ok (LentLine one)) (Ok (LentLine other)) says number = Answers number (says 1 one.tree.now other.tree.now)
OfLentBoth (Ok (LentPlane one)) (Ok (LentPlane other)) says number = Answers number (says 2 one.tree.now other.tree.now)
OfLentBoth (Ok (LentSpace one)) (Ok (LentSpace other)) says number = Answers number (says 3 one.tree.now other.tree.now)
OfLentBoth (Ok one) (Ok other) says number = number ≡ number_of BadAxes

abbrev pub OfObjects : Object → Object → ((D : ℕ) → TreeLists D → TreeLists D → Code → Type 0) → ℤ → Type 0
OfObjects one other says number = (left : Result AnyTree Code) × (right : Result AnyTree Code) ×
    Lends (Some one) left × Lends (Some other) right × OfLentBoth left right says number

-- of two handles the call says that one is closed, or else this of their objects
abbrev pub OfTrees : Option Object → Option Object → ((D : ℕ) → TreeLists D → TreeLists D → Code → Type 0) → ℤ → Type 0
OfTrees None other says number = number ≡ number_of Closed
OfTrees (Some one) None says number = number ≡ number_of Closed
OfTrees (Some one) (Some other) says number = OfObjects one other says number

module _ {D : ℕ} where
  -- the same of the pairs of rows of two trees whose boxes touch; or no memory is left, and nothing changes
  abbrev pub GivesJoined : List ℤ → List ℤ → List ℤ → List ℤ → ℕ → ℕ → TreeLists D → TreeLists D → Code → Type 0
  GivesJoined left new_left right new_right told total one other OutOfMemory =
      (new_left ≡ left) × (new_right ≡ right) × (total ≡ told)
  GivesJoined left new_left right new_right told total one other code =
      (pairs : List Pair) × JoinsIn one.lists other.lists pairs × GivesPairs pairs left new_left right new_right total code

  -- if both buffers have one length; else a length is wrong
  abbrev pub Joins : List ℤ → List ℤ → List ℤ → List ℤ → ℕ → ℕ → TreeLists D → TreeLists D → Code → Type 0
  Joins left new_left right new_right told total one other code = Sized (length right) (length left)
      (GivesJoined left new_left right new_right told total one other code) (code ≡ BadLength)

  -- the same of the pairs of different rows of one tree whose boxes touch, the lower id on the left
  abbrev pub GivesItself : List ℤ → List ℤ → List ℤ → List ℤ → ℕ → ℕ → TreeLists D → Code → Type 0
  GivesItself left new_left right new_right told total tree OutOfMemory = (new_left ≡ left) × (new_right ≡ right) × (total ≡ told)
  GivesItself left new_left right new_right told total tree code =
      (pairs : List Pair) × JoinsItselfIn tree.lists pairs × GivesPairs pairs left new_left right new_right total code

  abbrev pub JoinsItself : List ℤ → List ℤ → List ℤ → List ℤ → ℕ → ℕ → TreeLists D → Code → Type 0
  JoinsItself left new_left right new_right told total tree code = Sized (length right) (length left)
      (GivesItself left new_left right new_right told total tree code) (code ≡ BadLength)
