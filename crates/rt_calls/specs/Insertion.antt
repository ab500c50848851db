-- What a call that inserts many rows does to a tree (own).
use Rattle.std.specs.Prelude.{◌≡◌, ℕ, ◌+◌, ◌*◌, ◌<◌, ℤ, List, length}
use Rattle.rt_tree.specs.Lists.{TreeLists, rows_of}
use Rattle.rt_tree_many.specs.Insertion.{IsFirstTaken, AreNew, GainsRows, InsertsInTurn}
use Rattle.rt_tree_node.specs.Whole.{most_rows_of_a_tree}
use Rattle.rt_tree_walk.specs.declared.searching.Row.{Row}
use Rattle.rt_calls.specs.Buffers.{Sized}
use Rattle.rt_calls.specs.Numbers.{AreAllOrdered, AreRows, IsFirstBad}
use Rattle.rt_calls.specs.declared.code.Code.{Code}
use Rattle.rt_calls.specs.declared.code.Code.TheVariants.{Done, BadBox, IdTaken, OutOfMemory, TreeFull, BadLength}

module _ {D : ℕ} where
  -- The rows are inserted by the rules, one after another, in a tree of the same capacity. Or, in this order, the box at the place is
  -- the first that has a least number above its greatest, the id at the place is the first that the tree or an earlier row has, the
  -- tree would have more rows than a tree may have, or no memory is left; the rows are then unchanged.
  abbrev pub InsertsRows : List ℤ → List ℤ → ℕ → TreeLists D → TreeLists D → Code → Type 0
  InsertsRows ids numbers at old new Done = (rows : List (Row D)) × AreRows ids numbers rows × GainsRows old.lists new.lists rows ×
      InsertsInTurn old.lists rows new.lists × (new.lists.capacity ≡ old.lists.capacity)
  InsertsRows ids numbers at old new BadBox = IsFirstBad D numbers at × (new ≡ old)
  InsertsRows ids numbers at old new IdTaken = AreAllOrdered D (length ids) numbers ×
      (rows : List (Row D)) × AreRows ids numbers rows × IsFirstTaken old.lists rows at × (new.lists ≡ old.lists)
  InsertsRows ids numbers at old new TreeFull = AreAllOrdered D (length ids) numbers ×
      (rows : List (Row D)) × AreRows ids numbers rows × AreNew old.lists rows ×
      (most_rows_of_a_tree < length (rows_of old.lists) + length rows) × (new.lists ≡ old.lists)
  InsertsRows ids numbers at old new OutOfMemory = AreAllOrdered D (length ids) numbers × (new.lists ≡ old.lists)
  InsertsRows ids numbers at old new code = ⊥

  -- if there are the numbers of as many boxes as ids; else a length is wrong
  abbrev pub InsertsAll : List ℤ → List ℤ → ℕ → TreeLists D → TreeLists D → Code → Type 0
  InsertsAll ids numbers at old new code = Sized (length numbers) (length ids * (2 * D))
      (InsertsRows ids numbers at old new code) ((code ≡ BadLength) × (new ≡ old))

-- the place is told together with a row that is refused, and stays else
abbrev pub KeepsPlaceOf : ℕ → ℕ → Code → Type 0
KeepsPlaceOf old new BadBox = Unit {0}
KeepsPlaceOf old new IdTaken = Unit {0}
KeepsPlaceOf old new code = new ≡ old
