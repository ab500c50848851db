-- Why a call makes no tree of rows, and what tree it makes (own).
use Rattle.std.specs.Prelude.{◌≡◌, ◌≢◌, ℕ, ◌*◌, ◌<◌, ◌≤◌, ℤ, List, length, Result, Ok, Err}
use Rattle.rt_box.specs.Capacity.{IsCapacity}
use Rattle.rt_handle.specs.declared.object.HeldTree.{HeldTree}
use Rattle.rt_handle.specs.declared.object.Object.{Object}
use Rattle.rt_map.specs.Packing.{IsPackedOf}
use Rattle.rt_tree_node.specs.Whole.{most_rows_of_a_tree}
use Rattle.rt_tree_pack.specs.Packing.{IsFirstRepeated}
use Rattle.rt_tree_walk.specs.declared.searching.Row.{Row}
use Rattle.rt_calls.specs.Calls.{IsTree}
use Rattle.rt_calls.specs.Numbers.{AreAllOrdered, AreRows, IsFirstBad}
use Rattle.rt_calls.specs.Trees.{IsAxes}
use Rattle.rt_calls.specs.declared.code.Code.{Code}
use Rattle.rt_calls.specs.declared.code.Code.TheVariants.{BadCapacity, BadBox, IdTaken, OutOfMemory, TreeFull, BadLength, BadAxes}

-- a node may have that many cells at most, the numbers are those of as many boxes as ids, each box is one, and there are no more
-- rows than a tree may have
abbrev pub MayPack : ℕ → ℕ → List ℤ → List ℤ → Type 0
MayPack axes capacity ids numbers = IsCapacity capacity × (length numbers ≡ length ids * (2 * axes)) ×
    AreAllOrdered axes (length ids) numbers × (length ids ≤ most_rows_of_a_tree)

-- Why there is no tree of that many axes with these rows, in this order: no node has that many cells at most, the numbers are
-- more or fewer than the ids ask for, the box at the place is the first that has a least number above its greatest, there are
-- more rows than a tree may have, the id at the place is the first that an earlier row has, or no memory is left.
abbrev pub PacksNone : ℕ → ℕ → List ℤ → List ℤ → ℕ → Code → Type 0
PacksNone axes capacity ids numbers at BadCapacity = ¬ IsCapacity capacity
PacksNone axes capacity ids numbers at BadLength = IsCapacity capacity × (length numbers ≢ length ids * (2 * axes))
PacksNone axes capacity ids numbers at BadBox =
    IsCapacity capacity × (length numbers ≡ length ids * (2 * axes)) × IsFirstBad axes numbers at
PacksNone axes capacity ids numbers at TreeFull = IsCapacity capacity × (length numbers ≡ length ids * (2 * axes)) ×
    AreAllOrdered axes (length ids) numbers × (most_rows_of_a_tree < length ids)
PacksNone axes capacity ids numbers at IdTaken = MayPack axes capacity ids numbers × IsFirstRepeated ids at
PacksNone axes capacity ids numbers at OutOfMemory = MayPack axes capacity ids numbers
PacksNone axes capacity ids numbers at code = ⊥

-- the place is told together with a row that is refused, and stays else
abbrev pub KeepsPlace : {X : Type 0} → ℕ → ℕ → Result X Code → Type 0
KeepsPlace old new (Err BadBox) = Unit {0}
KeepsPlace old new (Err IdTaken) = Unit {0}
KeepsPlace old new other = new ≡ old

-- the same of a number of axes that a tree may not have, before all else
abbrev pub OpensNoRows : ℕ → ℕ → List ℤ → List ℤ → ℕ → Code → Type 0
OpensNoRows axes capacity ids numbers at BadAxes = ¬ IsAxes axes
OpensNoRows axes capacity ids numbers at code = IsAxes axes × PacksNone axes capacity ids numbers at code

module _ {D : ℕ} where
  -- the tree has these rows, and no others; its nodes are few, and have that many cells at most
  abbrev pub IsPacked : ℕ → List ℤ → List ℤ → HeldTree D → Type 0
  IsPacked capacity ids numbers kept =
      (kept.capacity ≡ capacity) × (rows : List (Row D)) × AreRows ids numbers rows × IsPackedOf kept.tree.lists capacity rows

  abbrev pub Packs : ℕ → List ℤ → List ℤ → ℕ → Result (HeldTree D) Code → Type 0
  Packs capacity ids numbers at (Ok kept) = MayPack D capacity ids numbers × IsPacked capacity ids numbers kept
  Packs capacity ids numbers at (Err code) = PacksNone D capacity ids numbers at code

abbrev pub PacksAny : ℕ → ℕ → List ℤ → List ℤ → ℕ → Result Object Code → Type 0
PacksAny axes capacity ids numbers at (Ok object) =
    IsAxes axes × MayPack axes capacity ids numbers × IsTree axes (λ D. IsPacked capacity ids numbers) object
PacksAny axes capacity ids numbers at (Err code) = OpensNoRows axes capacity ids numbers at code
