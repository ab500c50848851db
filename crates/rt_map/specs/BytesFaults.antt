-- Why bytes make no tree (own).
use Rattle.std.specs.Prelude.{◌≡◌, ℕ, ◌<◌, ◌++◌, List, length}
use Rattle.rt_box.specs.Capacity.{IsCapacity}
use Rattle.rt_check.specs.Shadow.{ShadowLists}
use Rattle.rt_tree_node.specs.Whole.{most_rows_of_a_tree}
use Rattle.rt_tree.specs.Lists.{rows_of}
use Rattle.rt_map.specs.declared.bytes_fault.BytesFault.{BytesFault}
use Rattle.rt_map.specs.declared.bytes_fault.BytesFault.TheVariants.{Bad, TooMany, Memory}
use Rattle.rt_map.specs.TreeBytes.{head_bytes, tree_bytes}
use Rattle.rt_map.specs.Written.{IsTreeBytes}

-- the bytes begin as those of a tree do: with the head of one of some capacity
abbrev pub BeginAsTree : ℕ → List ℕ → Type 0
BeginAsTree axes bytes = (capacity : ℕ) × IsCapacity capacity × (nodes : List ℕ) × (bytes ≡ head_bytes axes capacity ++ nodes)

-- the bytes are those of lists with that many rows, whether these are a tree's or not
abbrev pub HasRows : ℕ → List ℕ → ℕ → Type 0
HasRows axes bytes count = (s : ShadowLists axes) × (tree_bytes s ≡ bytes) × (length (rows_of s) ≡ count)

-- with more rows than a tree may have
abbrev pub HasTooManyRows : ℕ → List ℕ → Type 0
HasTooManyRows axes bytes = (count : ℕ) × HasRows axes bytes count × (most_rows_of_a_tree < count)

-- a fault that is said of bytes holds of them: those of a tree are refused only if no memory is left
abbrev pub IsBytesFaultOf : ℕ → List ℕ → BytesFault → Type 0
IsBytesFaultOf axes bytes Bad = ¬ IsTreeBytes axes bytes
IsBytesFaultOf axes bytes TooMany = HasTooManyRows axes bytes × (¬ IsTreeBytes axes bytes)
IsBytesFaultOf axes bytes Memory = Unit {0}
