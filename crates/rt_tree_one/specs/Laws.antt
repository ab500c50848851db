-- There is one tree that an insertion, a removal and a replacement make of a tree, as it is seen from outside; and a
-- sound tree shows one nested tree, which is one of those that the rules take (own).
use Rattle.std.specs.Prelude.{◌≡◌, ℕ, ℤ, List, length}
use Rattle.std.specs.List.{All}
use Rattle.rt_box.specs.declared.interval.Interval.{Interval}
use Rattle.rt_box.specs.Capacity.{IsCapacity}
use Rattle.rt_check.specs.declared.node.NodeRow.{NodeRow}
use Rattle.rt_check.specs.Shadow.{ShadowLists}
use Rattle.rt_check.specs.Conditions.{IsSound}
use Rattle.rt_tree_node.specs.declared.arena.Work.{Work}
use Rattle.rt_tree_rules.specs.Nested.{Tree}
use Rattle.rt_tree_rules.specs.Filled.{IsFilledTree}
use Rattle.rt_tree_rules.specs.Shadow.{Shows}
use Rattle.rt_tree_outside.specs.InOrder.{IsPreorder, AreByRisingId}
use Rattle.rt_tree.specs.Lists.{IsInShape}
use Rattle.rt_tree.specs.Changes.{IsInsertion, IsRemoval}
use Rattle.rt_tree.specs.Replacing.{IsReplacement}

-- the nodes of sound lists, whose row entries stand by rising id, determine the entries
abbrev pub RowsAreDetermined : Type 0
RowsAreDetermined = (axes : ℕ) (one other : ShadowLists axes) →
    IsSound one → IsSound other → AreByRisingId one.rows → AreByRisingId other.rows →
    one.nodes ≡ other.nodes → one.rows ≡ other.rows

-- a row that comes into a tree leads to one tree, by one amount of work
abbrev pub InsertionIsDetermined : Type 0
InsertionIsDetermined = (axes : ℕ) (old one other : ShadowLists axes) (id : ℤ) (rect : List Interval) (first second : Work) →
    IsInShape one → IsInShape other → IsInsertion old one id rect first → IsInsertion old other id rect second →
    (one ≡ other) × (first ≡ second)

-- a row that goes leads to one tree, whichever box it is said to have had
abbrev pub RemovalIsDetermined : Type 0
RemovalIsDetermined = (axes : ℕ) (old one other : ShadowLists axes) (id : ℤ) (rect said : List Interval) →
    IsInShape one → IsInShape other → IsRemoval old one id rect → IsRemoval old other id said → one ≡ other

-- a row that gets another box leads to one tree
abbrev pub ReplacementIsDetermined : Type 0
ReplacementIsDetermined = (axes : ℕ) (old one other : ShadowLists axes) (id : ℤ) (rect : List Interval) →
    IsInShape one → IsInShape other → IsReplacement old one id rect → IsReplacement old other id rect → one ≡ other

-- each cell of a node, or of all nodes, has a lo and a hi on each axis, as its type says
abbrev pub HaveAxes : {axes : ℕ} → NodeRow axes → Type 0
HaveAxes {axes} node = All (λ c. (length c.lo ≡ axes) × (length c.hi ≡ axes)) node.cells

abbrev pub CellsHaveAxes : {axes : ℕ} → ShadowLists axes → Type 0
CellsHaveAxes s = All HaveAxes s.nodes

-- a sound tree in preorder shows a nested tree, and only one
abbrev pub SoundTreesAreNested : Type 0
SoundTreesAreNested = (axes : ℕ) (s : ShadowLists axes) →
    IsCapacity s.capacity → CellsHaveAxes s → IsSound s → IsPreorder s →
    (tree : Tree) × Shows s tree × ((other : Tree) → Shows s other → other ≡ tree)

-- a nested tree that a sound one shows is filled, so it takes each row and gives up each
abbrev pub SoundTreesAreFilled : Type 0
SoundTreesAreFilled =
    (axes : ℕ) (s : ShadowLists axes) (tree : Tree) → IsSound s → Shows s tree → IsFilledTree s.capacity tree
