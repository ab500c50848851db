-- How a dump is loaded, step by step. No contract of an exported call cites this module.
use Rattle.std.specs.Prelude.{◌≡◌, ℕ, ◌≤◌, ◌<◌, ℤ, List, length, Result, Ok, Err}
use Rattle.rt_check.specs.declared.node.RawCell.{RawCell}
use Rattle.rt_check.specs.Shadow.{ShadowLists}
use Rattle.rt_check.specs.Conditions.{IsSound, times_named}
use Rattle.rt_check_dump.specs.declared.dump.AnyShadow.{AnyShadow}
use Rattle.rt_check_dump.specs.Faults.{IsTextOf, IsDump}
use Rattle.rt_handle.specs.declared.object.HeldTree.{HeldTree}
use Rattle.rt_handle.specs.declared.object.Object.{Object}
use Rattle.rt_tree.specs.Lists.{rows_of}
use Rattle.rt_map.specs.declared.restore_fault.RestoreFault.{RestoreFault}
use Rattle.rt_map.specs.declared.restore_fault.RestoreFault.TheVariants.{NoBox, TooMany, Repeated, Memory}
use Rattle.rt_tree_node.specs.Whole.{most_rows_of_a_tree}
use Rattle.rt_calls.specs.declared.code.Code.{Code}
use Rattle.rt_calls.specs.declared.code.Code.TheVariants.{BadDump, TreeFull, OutOfMemory}
use Rattle.rt_calls.specs.Trees.{HasRowsOf, IsAnySound, IsTreeOf, row_count, IsOfDump, LoadsNone}

-- the text is the dump of this shadow, and of no other; or of none
abbrev pub ReadsText : List ℕ → Result AnyShadow Code → Type 0
ReadsText text (Ok shadow) = IsTextOf shadow text × ((other : AnyShadow) → IsTextOf other text → other ≡ shadow)
ReadsText text (Err BadDump) = ¬ IsDump text
ReadsText text (Err OutOfMemory) = Unit {0}
ReadsText text (Err code) = ⊥

-- why a shadow makes no tree, as a code
abbrev pub code_of_fault : RestoreFault → Code
code_of_fault NoBox = BadDump
code_of_fault Repeated = BadDump
code_of_fault TooMany = TreeFull
code_of_fault Memory = OutOfMemory

module _ {D : ℕ} where
  -- no number is that of two cells
  abbrev pub AreUnique : List (RawCell D) → Type 0
  AreUnique cells = (number : ℤ) → times_named number cells ≤ 1

  -- a shadow in which the checker finds no problem is loaded, if it has no more rows than a tree may have
  abbrev pub Loads : ShadowLists D → Result (HeldTree D) Code → Type 0
  Loads s (Ok kept) = IsSound s × HasRowsOf s kept
  Loads s (Err BadDump) = ¬ IsSound s
  Loads s (Err TreeFull) = IsSound s × (most_rows_of_a_tree < length (rows_of s))
  Loads s (Err OutOfMemory) = Unit {0}
  Loads s (Err code) = ⊥

-- the text is loaded as an object, or why it isn't
abbrev pub LoadsDump : ℕ → List ℕ → Result Object Code → Type 0
LoadsDump axes text (Ok object) = IsOfDump axes text object
LoadsDump axes text (Err code) = LoadsNone axes text code

-- a shadow in which the checker finds no problem is loaded as an object, if it has no more rows than a tree may have
abbrev pub LoadsAny : AnyShadow → Result Object Code → Type 0
LoadsAny any (Ok object) = IsAnySound any × IsTreeOf any object
LoadsAny any (Err BadDump) = ¬ IsAnySound any
LoadsAny any (Err TreeFull) = IsAnySound any × (most_rows_of_a_tree < row_count any)
LoadsAny any (Err OutOfMemory) = Unit {0}
LoadsAny any (Err code) = ⊥
