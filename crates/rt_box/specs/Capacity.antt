-- The capacity of a tree's nodes, and what follows from it.
use Rattle.std.specs.Prelude.{ℕ, ◌*◌, ◌/◌, ◌≤◌}

-- the greatest number of cells that a node may have: 51, as in SQLite's nodes, or less, but at least 5,
-- so that the two numbers below are not 0 and a split leaves no cell alone (own)
abbrev pub IsCapacity : ℕ → Type 0
IsCapacity n = (5 ≤ n) × (n ≤ 51)

-- the most cells that are ever in a node: an overfull one has a cell more than the greatest capacity
abbrev pub most_cells : ℕ
most_cells = 52

-- the least number of cells in a node that isn't the root: 40 in a hundred, rounded down
-- (Beckmann, Kriegel, Schneider, Seeger 1990, section 4.2)
abbrev pub least_fill : ℕ → ℕ
least_fill capacity = 2 * capacity / 5

-- the number of cells that are inserted again: 30 in a hundred, rounded down
-- (Beckmann, Kriegel, Schneider, Seeger 1990, section 4.3)
abbrev pub reinsertion_share : ℕ → ℕ
reinsertion_share capacity = 3 * capacity / 10
