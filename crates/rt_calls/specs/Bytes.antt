-- What a call does with a tree as bytes (own).
use Rattle.std.specs.Prelude.{◌≡◌, ℕ, List, Result, Ok, Err}
use Rattle.rt_handle.specs.declared.object.HeldTree.{HeldTree}
use Rattle.rt_handle.specs.declared.object.Object.{Object}
use Rattle.rt_tree.specs.Lists.{TreeLists}
use Rattle.rt_map.specs.TreeBytes.{tree_bytes}
use Rattle.rt_map.specs.Written.{IsTreeBytes}
use Rattle.rt_map.specs.BytesFaults.{HasTooManyRows}
use Rattle.rt_calls.specs.Buffers.{GivesText}
use Rattle.rt_calls.specs.Calls.{IsTree}
use Rattle.rt_calls.specs.Trees.{IsAxes}
use Rattle.rt_calls.specs.declared.code.Code.{Code}
use Rattle.rt_calls.specs.declared.code.Code.TheVariants.{Done, BadBytes, OutOfMemory, TreeFull, BadAxes}

-- why there is no tree of the bytes: a tree has not that many axes; or the bytes are not those of a tree, in which case they may
-- have more rows than one; or no memory is left
abbrev pub OpensNoBytes : ℕ → List ℕ → Code → Type 0
OpensNoBytes axes bytes BadAxes = ¬ IsAxes axes
OpensNoBytes axes bytes BadBytes = IsAxes axes × (¬ IsTreeBytes axes bytes)
OpensNoBytes axes bytes TreeFull = IsAxes axes × (¬ IsTreeBytes axes bytes) × HasTooManyRows axes bytes
OpensNoBytes axes bytes OutOfMemory = IsAxes axes
OpensNoBytes axes bytes code = ⊥

module _ {D : ℕ} where
  -- the tree's bytes are in the caller's buffer, and their number is told; or there are more, or no memory is left
  abbrev pub WritesBytes : List ℕ → List ℕ → ℕ → ℕ → TreeLists D → Code → Type 0
  WritesBytes before after told total tree code = GivesText (tree_bytes tree.lists) before after told total code

  -- what is written are the bytes of a tree of these axes, so they are refused only for want of memory
  abbrev pub OpensAgain : TreeLists D → Code → Type 0
  OpensAgain tree code = code ≡ Done → IsTreeBytes D (tree_bytes tree.lists)

  -- the tree's bytes are these, so it is the tree that they were written of
  abbrev pub IsOfBytes : List ℕ → HeldTree D → Type 0
  IsOfBytes bytes kept = (tree_bytes kept.tree.lists ≡ bytes) × (kept.capacity ≡ kept.tree.lists.capacity)

  abbrev pub ReadsBytes : List ℕ → Result (HeldTree D) Code → Type 0
  ReadsBytes bytes (Ok kept) = IsOfBytes bytes kept
  ReadsBytes bytes (Err code) = OpensNoBytes D bytes code

abbrev pub ReadsAnyBytes : ℕ → List ℕ → Result Object Code → Type 0
ReadsAnyBytes axes bytes (Ok object) = IsAxes axes × IsTree axes (λ D. IsOfBytes bytes) object
ReadsAnyBytes axes bytes (Err code) = OpensNoBytes axes bytes code
