-- A tree as nested lists: a node is the list of its cells, and the cell of a child is that child. No box is kept above the
-- leaves, since that of a child is the least one around its cells (own; Guttman 1984, section 3.1, of such a tree on pages).
use Rattle.std.specs.Prelude.{ℕ, zero, suc, ℤ, List, [], ◌∷◌, map}
use Rattle.rt_box.specs.declared.interval.Interval.{Interval}
use Rattle.rt_box.specs.Hull.{hull}

-- a row
pub record Row : Type 0 where
  pub id : ℤ
  pub rect : List Interval

-- what a cell of a node of the level holds: in a leaf, on level 0, a row, and above the leaves a child
abbrev pub Entry : ℕ → Type 0
Entry zero = Row
Entry (suc l) = List (Entry l)

-- a node of the level: its cells
abbrev pub Node : ℕ → Type 0
Node l = List (Entry l)

-- the box of a cell: the row's, or the least one around the child's cells
abbrev pub box : (l : ℕ) → Entry l → List Interval
box zero row = row.rect
box (suc l) child = hull (map (box l) child)

abbrev pub boxes : (l : ℕ) → Node l → List (List Interval)
boxes l node = map (box l) node

pub record Tree : Type 0 where
  pub level : ℕ
  pub root : Node level

-- a cell that waits to be inserted into a node of the level
pub record Waiting : Type 0 where
  pub level : ℕ
  pub entry : Entry level

-- the cell, if it is one of the level that is asked for, and else none
abbrev pub if_level : (F : ℕ → Type 0) (level asked : ℕ) → F level → List (F asked)
if_level F zero zero x = x ∷ []
if_level F zero (suc asked) x = []
if_level F (suc level) zero x = []
if_level F (suc level) (suc asked) x = if_level (λ l. F (suc l)) level asked x

abbrev pub of_level : (l : ℕ) → Waiting → List (Entry l)
of_level l w = if_level Entry w.level l w.entry
