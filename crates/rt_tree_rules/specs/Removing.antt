-- How a row is removed (Guttman 1984, section 3.3, with the Insert of Beckmann, Kriegel, Schneider, Seeger 1990, section 4.3;
-- the order in which cells are inserted again is own).
use Rattle.std.specs.Prelude.{◌≡◌, ℕ, zero, suc, true, false, not, Bool, ℤ, List, [], ◌∷◌, ◌++◌, map, filter, length, nat_lt, remove, slice_set, slice_index_or}
use Rattle.std.specs.List.{list_any, position_or_len}
use Rattle.std.specs.Ordering.{int_eq}
use Rattle.rt_box.specs.Capacity.{least_fill}
use Rattle.rt_tree_rules.specs.Nested.{Row, Entry, Node, Tree, Waiting}
use Rattle.rt_tree_rules.specs.Placing.{Work, Settles, IsInsertion}

-- the cell is the row with the id, or the child has it below
abbrev pub has_row : (l : ℕ) → ℤ → Entry l → Bool
has_row zero id row = int_eq id row.id
has_row (suc l) id child = list_any (has_row l id) child

-- a node without the row, and the cells of the nodes that were eliminated, those of the lowest level first
pub record Thinned (l : ℕ) : Type 0 where
  pub node : Node l
  pub orphans : List Waiting

-- CondenseTree at the child at the position: if it is underfull, it is eliminated, and its cells are orphans
abbrev pub condense : ℕ → (l : ℕ) → Node (suc l) → ℕ → Thinned l → Thinned (suc l)
condense capacity l node at child = elim (nat_lt (length child.node) (least_fill capacity)) [
  | true ↦ record { node = remove node at; orphans = child.orphans ++ map (λ e. record { level = l; entry = e }) child.node }
  | false ↦ record { node = slice_set node at child.node; orphans = child.orphans }
]

-- Delete: the row with the id leaves its leaf, and the nodes above it are condensed, the lowest first
abbrev pub take_out : ℕ → (l : ℕ) → ℤ → Node l → Thinned l
take_out capacity zero id node = record { node = filter (λ row. not (int_eq id row.id)) node; orphans = [] }
take_out capacity (suc l) id node =
    let at = position_or_len (has_row (suc l) id) node in
    condense capacity l node at (take_out capacity l id (slice_index_or node at []))

-- Delete, its last step: a root above the leaves that has one child gives way to it
abbrev pub shorten : (l : ℕ) → Node l → Tree
shorten zero root = record { level = zero; root = root }
shorten (suc l) [] = record { level = suc l; root = [] }
shorten (suc l) (child ∷ []) = record { level = l; root = child }
shorten (suc l) (child ∷ other ∷ children) = record { level = suc l; root = child ∷ other ∷ children }

-- trees of that many axes, whose nodes have at most as many cells as the capacity
module _ (axes capacity : ℕ) where
  -- the cells are inserted one after the other, each as if it had come alone
  abbrev pub SettleInTurn : Tree → List Waiting → Tree → Type 0
  SettleInTurn old [] new = new ≡ old
  SettleInTurn old (w ∷ ws) new =
      (between : Tree) × (work : Work) × Settles axes capacity old w between work × SettleInTurn between ws new

  -- the row with the id leaves the tree
  pub record IsRemoval (old : Tree) (id : ℤ) (new : Tree) : Type 0 where
    pub settled : Tree
    pub settle : let thinned = take_out capacity old.level id old.root in
        SettleInTurn record { level = old.level; root = thinned.node } thinned.orphans settled
    pub shortened : new ≡ shorten settled.level settled.root

  -- the row with the id gets another box: it leaves the tree, and comes again
  pub record IsReplacement (old : Tree) (row : Row) (new : Tree) (work : Work) : Type 0 where
    pub between : Tree
    pub removal : IsRemoval old row.id between
    pub insertion : IsInsertion axes capacity between row new work
