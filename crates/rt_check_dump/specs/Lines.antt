-- The lines of a dump, by their spelling and by what they say (own).
use Rattle.std.specs.Prelude.{ℕ, zero, suc, ◌+◌, ◌*◌, ℤ, Bool, true, false, ◌&&◌, ◌||◌, List, [], ◌∷◌, Option, None, Some, drop, nat_le, bytes_eq, codes, if◌then◌else◌}
use Rattle.std.specs.Option.{option_and_then, option_map}
use Rattle.rt_check.specs.declared.node.RawCell.{RawCell}
use Rattle.rt_check.specs.declared.node.RowEntry.{RowEntry}
use Rattle.rt_check_dump.specs.declared.lines.LineKind.{LineKind}
use Rattle.rt_check_dump.specs.declared.lines.LineKind.TheVariants.{Header, Node, Cell, Row, End}
use Rattle.rt_check_dump.specs.declared.lines.NodeHead.{NodeHead}
use Rattle.rt_check_dump.specs.declared.lines.Range.{Range}
use Rattle.rt_check_dump.specs.declared.reading.Heading.{Heading}
use Rattle.rt_check_dump.specs.Pieces.{pieces}
use Rattle.rt_check_dump.specs.Numbers.{is_number, number_of, positive_of, count_of, byte_of, coordinate_of, parent_of}

-- n words, all of them numbers
abbrev pub are_numbers : ℕ → List (List ℕ) → Bool
are_numbers zero [] = true
are_numbers zero (w ∷ ws) = false
are_numbers (suc n) [] = false
are_numbers (suc n) (w ∷ ws) = is_number w && are_numbers n ws

-- the words of a line
abbrev pub words : List ℕ → List (List ℕ)
words text = pieces 32 text

-- a line of that kind's word and n numbers
abbrev pub is_plain : List ℕ → ℕ → List (List ℕ) → Bool
is_plain kind n [] = false
is_plain kind n (w ∷ ws) = bytes_eq w kind && are_numbers n ws

-- a word for a parent: a number, or `-` for none
abbrev pub is_parent : List ℕ → Bool
is_parent w = bytes_eq w (codes "-") || is_number w

abbrev pub is_node : List (List ℕ) → Bool
is_node (k ∷ a ∷ b ∷ p ∷ ws) = bytes_eq k (codes "node") && (is_number a && (is_number b && (is_parent p && are_numbers 1 ws)))
is_node ws = false

-- a cell's line, on this number of axes if it is known
abbrev pub is_cell : Option ℕ → List (List ℕ) → Bool
is_cell None ws = is_plain (codes "cell") 3 ws || (is_plain (codes "cell") 5 ws || is_plain (codes "cell") 7 ws)
is_cell (Some axes) ws = is_plain (codes "cell") (1 + 2 * axes) ws

-- the kind of a line by its spelling, whether the number of axes is known or not
abbrev pub kind_of : Option ℕ → List (List ℕ) → Option LineKind
kind_of axes ws =
    if is_plain (codes "rtree") 5 ws then Some Header
    else if is_node ws then Some Node
    else if is_cell axes ws then Some Cell
    else if is_plain (codes "row") 2 ws then Some Row
    else if is_plain (codes "end") 0 ws then Some End
    else None

-- a header's first number: one to three axes
abbrev pub axes_of : List ℕ → Option ℕ
axes_of w = option_and_then (λ n. if nat_le 1 n && nat_le n 3 then Some n else None) (byte_of w)

-- a capacity from 5 to 51
abbrev pub capacity_of : List ℕ → Option ℕ
capacity_of w = option_and_then (λ n. if nat_le 5 n && nat_le n 51 then Some n else None) (byte_of w)

-- what a header says
abbrev pub header_of : List (List ℕ) → Option Heading
header_of (k ∷ a ∷ m ∷ r ∷ n ∷ t ∷ ws) =
    option_and_then (λ axes. option_and_then (λ capacity. option_and_then (λ root. option_and_then (λ nodes. option_and_then
    (λ rows. Some record { axes = axes; capacity = capacity; root = root; nodes = nodes; rows = rows })
    (count_of t)) (count_of n)) (positive_of r)) (capacity_of m)) (axes_of a)
header_of ws = None

-- what a node's line says
abbrev pub node_head : List (List ℕ) → Option NodeHead
node_head (k ∷ a ∷ b ∷ p ∷ c ∷ ws) =
    option_and_then (λ number. option_and_then (λ level. option_and_then (λ parent. option_and_then
    (λ cells. Some record { number = number; level = level; parent = parent; cells = cells })
    (count_of c)) (parent_of p)) (byte_of b)) (positive_of a)
node_head ws = None

-- what a row's line says
abbrev pub row_entry : List (List ℕ) → Option RowEntry
row_entry (k ∷ a ∷ b ∷ ws) = option_and_then (λ id. option_and_then (λ leaf. Some record { id = id; leaf = leaf }) (positive_of b)) (number_of a)
row_entry ws = None

-- the range of the first two words
abbrev pub first_range : List (List ℕ) → Option Range
first_range (a ∷ b ∷ ws) = option_and_then (λ lo. option_and_then (λ hi. Some record { lo = lo; hi = hi }) (coordinate_of b)) (coordinate_of a)
first_range ws = None

-- n ranges: each lo, and each hi
abbrev pub ranges_of : ℕ → List (List ℕ) → Option (List ℤ × List ℤ)
ranges_of zero ws = Some ([], [])
ranges_of (suc n) ws =
    option_and_then (λ r. option_map (λ rs. (r.lo ∷ rs.0, r.hi ∷ rs.1)) (ranges_of n (drop 2 ws))) (first_range ws)

-- what a cell's line says
abbrev pub raw_cell : (D : ℕ) → List (List ℕ) → Option (RawCell D)
raw_cell D (k ∷ a ∷ ws) = option_and_then (λ number. option_map (λ r. record { number = number; lo = r.0; hi = r.1 }) (ranges_of D ws)) (number_of a)
raw_cell D ws = None
