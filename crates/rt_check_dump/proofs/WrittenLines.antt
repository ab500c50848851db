-- Lemmas on the lines that are written: their words, their kind, and what they say.
use Rattle.std.proofs.Common.{◌≡◌, ℕ, zero, suc, ◌+◌, ◌*◌, ◌<◌, ◌≤◌, ◌^◌, ℤ, List, [], ◌∷◌, Bool, true, false, ◌&&◌, cond, refl, ◌∙◌, ap, length, arith, Option, Some, None}
use Rattle.std.specs.Prelude.{codes, nat_le, decimal}
use Rattle.std.specs.List.{All, flat_map, zip}
use Rattle.std.specs.Option.{option_and_then, option_map, IfSome}
use Rattle.std.specs.Fmt.{signed_decimal}
use Rattle.std.proofs.lemmas.List.Elements.{All-head, All-tail}
use Rattle.rt_box.specs.Capacity.{IsCapacity}
use Rattle.rt_check.specs.declared.node.RawCell.{RawCell}
use Rattle.rt_check.specs.declared.node.NodeRow.{NodeRow}
use Rattle.rt_check.specs.declared.node.RowEntry.{RowEntry}
use Rattle.rt_check_dump.specs.declared.lines.LineKind.{LineKind}
use Rattle.rt_check_dump.specs.declared.lines.LineKind.TheVariants.{Header, Node, Cell, Row, End}
use Rattle.rt_check_dump.specs.declared.lines.NodeHead.{NodeHead}
use Rattle.rt_check_dump.specs.declared.lines.Range.{Range}
use Rattle.rt_check_dump.specs.declared.reading.Heading.{Heading}
use Rattle.rt_check_dump.specs.Numbers.{is_number, positive_of, count_of, byte_of, coordinate_of, parent_of}
use Rattle.rt_check_dump.specs.Lines.{are_numbers, is_plain, is_parent, is_node, is_cell, kind_of, node_head, row_entry, ranges_of, raw_cell, axes_of, capacity_of, header_of}
use Rattle.rt_check_dump.specs.Dump.{range_words, parent_word}
use Rattle.rt_check_dump.specs.InRange.{IsLong, IsInt, IsPositive, IsCellInRange, IsRowInRange, IsNodeInRange, IsNodeNumbered}
use Rattle.rt_check.specs.Shadow.{ShadowLists}
use Rattle.rt_check_dump.proofs.Spelled.{is_number-signed, number_of-signed}
use Rattle.rt_check_dump.proofs.WrittenPieces.{AreWords}
use Rattle.rt_check_dump.proofs.WrittenNumbers.{decimal-word, signed-word, is_number-count, count_of-decimal, byte_of-decimal, positive_of-signed, coordinate_of-signed, IsParent, parent-word, is_parent-word, parent_of-word}

-- the further words of each line
abbrev pub range_list : List ℤ → List ℤ → List (List ℕ)
range_list lo hi = flat_map range_words (zip lo hi)

abbrev pub cell_words : {D : ℕ} → RawCell D → List (List ℕ)
cell_words cell = signed_decimal cell.number ∷ range_list cell.lo cell.hi

abbrev pub row_words : RowEntry → List (List ℕ)
row_words row = signed_decimal row.id ∷ signed_decimal row.leaf ∷ []

abbrev pub node_words : {D : ℕ} → NodeRow D → List (List ℕ)
node_words node = signed_decimal node.number ∷ decimal node.level ∷ parent_word node.parent ∷ decimal (length node.cells) ∷ []

abbrev pub header_words : {D : ℕ} → ShadowLists D → List (List ℕ)
header_words {D} s = decimal D ∷ decimal s.capacity ∷ signed_decimal s.root ∷ decimal (length s.nodes) ∷ decimal (length s.rows) ∷ []

and-true : (a b : Bool) → a ≡ true → b ≡ true → (a && b) ≡ true
and-true true b p q = q
and-true false b p q = p

long : (z : ℤ) → IsInt z → IsLong z
long z small = omega (arith, small)

-- ranges
ranges-words : (lo hi : List ℤ) → All IsInt lo → All IsInt hi → AreWords (range_list lo hi)
ranges-words [] hi low high = tt
ranges-words (l ∷ lo) [] low high = tt
ranges-words (l ∷ lo) (h ∷ hi) low high = (
  signed-word l (long l (All-head IsInt l lo low)),
  (
    signed-word h (long h (All-head IsInt h hi high)),
    ranges-words lo hi (All-tail IsInt l lo low) (All-tail IsInt h hi high),
  ),
)

ranges-numbers : (n : ℕ) (lo hi : List ℤ) → length lo ≡ n → length hi ≡ n → All IsInt lo → All IsInt hi → are_numbers (2 * n) (range_list lo hi) ≡ true
ranges-numbers zero [] hi a b low high = let none : 2 * zero ≡ 0 = omega arith in ap (λ k. are_numbers k []) none
ranges-numbers zero (l ∷ lo) hi a b low high = let no : ⊥ = omega (arith, a) in absurd no
ranges-numbers (suc n) [] hi a b low high = let no : ⊥ = omega (arith, a) in absurd no
ranges-numbers (suc n) (l ∷ lo) [] a b low high = let no : ⊥ = omega (arith, b) in absurd no
ranges-numbers (suc n) (l ∷ lo) (h ∷ hi) a b low high =
    let next : 2 * suc n ≡ suc (suc (2 * n)) = omega arith in
    let few : length lo ≡ n = omega (arith, a) in
    let many : length hi ≡ n = omega (arith, b) in
    let rest = ranges-numbers n lo hi few many (All-tail IsInt l lo low) (All-tail IsInt h hi high) in
    ap (λ k. are_numbers k (signed_decimal l ∷ signed_decimal h ∷ range_list lo hi)) next
    ∙ and-true (is_number (signed_decimal l)) _ (is_number-signed l (long l (All-head IsInt l lo low)))
    (and-true (is_number (signed_decimal h)) _ (is_number-signed h (long h (All-head IsInt h hi high))) rest)

ranges-read : (n : ℕ) (lo hi : List ℤ) → length lo ≡ n → length hi ≡ n → All IsInt lo → All IsInt hi → ranges_of n (range_list lo hi) ≡ Some (lo, hi)
ranges-read zero [] [] a b low high = refl
ranges-read zero [] (h ∷ hi) a b low high = let no : ⊥ = omega (arith, b) in absurd no
ranges-read zero (l ∷ lo) hi a b low high = let no : ⊥ = omega (arith, a) in absurd no
ranges-read (suc n) [] hi a b low high = let no : ⊥ = omega (arith, a) in absurd no
ranges-read (suc n) (l ∷ lo) [] a b low high = let no : ⊥ = omega (arith, b) in absurd no
ranges-read (suc n) (l ∷ lo) (h ∷ hi) a b low high =
    let few : length lo ≡ n = omega (arith, a) in
    let many : length hi ≡ n = omega (arith, b) in
    let first : coordinate_of (signed_decimal l) ≡ Some l = coordinate_of-signed l (All-head IsInt l lo low) in
    let second : coordinate_of (signed_decimal h) ≡ Some h = coordinate_of-signed h (All-head IsInt h hi high) in
    let rest : ranges_of n (range_list lo hi) ≡ Some (lo, hi) = ranges-read n lo hi few many (All-tail IsInt l lo low) (All-tail IsInt h hi high) in
    ap (λ (o : Option ℤ). option_and_then (λ (r : Range). option_map {U = List ℤ × List ℤ} (λ rs. (r.lo ∷ rs.0, r.hi ∷ rs.1)) (ranges_of n (range_list lo hi)))
    (option_and_then (λ (lo : ℤ). option_and_then (λ (hi : ℤ). Some record { lo = lo; hi = hi }) (coordinate_of (signed_decimal h))) o)) first
    ∙ ap (λ (o : Option ℤ). option_and_then (λ (r : Range). option_map {U = List ℤ × List ℤ} (λ rs. (r.lo ∷ rs.0, r.hi ∷ rs.1)) (ranges_of n (range_list lo hi)))
    (option_and_then (λ (hi : ℤ). Some record { lo = l; hi = hi }) o)) second
    ∙ ap (λ (o : Option (List ℤ × List ℤ)). option_map {U = List ℤ × List ℤ} (λ rs. (l ∷ rs.0, h ∷ rs.1)) o) rest

-- a cell's line
pub cell-words : {D : ℕ} (cell : RawCell D) → IsCellInRange cell → AreWords (cell_words cell)
cell-words cell fits = (signed-word cell.number fits.number, ranges-words cell.lo cell.hi fits.lo fits.hi)

not_node-cell : (ws : List (List ℕ)) → is_node (codes "cell" ∷ ws) ≡ false
not_node-cell [] = refl
not_node-cell (a ∷ []) = refl
not_node-cell (a ∷ b ∷ []) = refl
not_node-cell (a ∷ b ∷ c ∷ ws) = refl

pub cell-kind : {D : ℕ} (cell : RawCell D) → 1 ≤ D → IsCellInRange cell → kind_of (Some D) (codes "cell" ∷ cell_words cell) ≡ Some Cell
cell-kind {D} cell some fits =
    let ws = codes "cell" ∷ cell_words cell in
    let next : 1 + 2 * D ≡ suc (2 * D) = omega arith in
    let numbers : are_numbers (1 + 2 * D) (cell_words cell) ≡ true =
    ap (λ k. are_numbers k (cell_words cell)) next
    ∙ and-true (is_number (signed_decimal cell.number)) _ (is_number-signed cell.number fits.number)
    (ranges-numbers D cell.lo cell.hi fits.axes_lo fits.axes_hi fits.lo fits.hi) in
    let rest : Option LineKind = cond (is_plain (codes "row") 2 ws) (Some Row) (cond (is_plain (codes "end") 0 ws) (Some End) None) in
    ap (λ b. cond b (Some Node) (cond (is_cell (Some D) ws) (Some Cell) rest)) (not_node-cell (cell_words cell))
    ∙ ap (λ b. cond b (Some Cell) rest) numbers

pub cell-read : {D : ℕ} (cell : RawCell D) → IsCellInRange cell → raw_cell D (codes "cell" ∷ cell_words cell) ≡ Some cell
cell-read {D} cell fits =
    ap (λ (o : Option ℤ). option_and_then (λ (number : ℤ). option_map {U = RawCell D} (λ r. record { number = number; lo = r.0; hi = r.1 }) (ranges_of D (range_list cell.lo cell.hi))) o) (number_of-signed cell.number fits.number)
    ∙ ap (λ (o : Option (List ℤ × List ℤ)). option_map {U = RawCell D} (λ r. record { number = cell.number; lo = r.0; hi = r.1 }) o)
    (ranges-read D cell.lo cell.hi fits.axes_lo fits.axes_hi fits.lo fits.hi)

-- a row's line
pub row-words : (row : RowEntry) → IsRowInRange row → AreWords (row_words row)
row-words row fits = (signed-word row.id fits.id, (signed-word row.leaf fits.leaf, tt))

pub row-kind : (D : ℕ) (row : RowEntry) → IsRowInRange row → kind_of (Some D) (codes "row" ∷ row_words row) ≡ Some Row
row-kind D row fits =
    let ws = codes "row" ∷ row_words row in
    let rest : Option LineKind = cond (is_plain (codes "row") 2 ws) (Some Row) None in
    let numbers : is_plain (codes "row") 2 ws ≡ true =
    and-true (is_number (signed_decimal row.id)) _ (is_number-signed row.id fits.id)
    (and-true (is_number (signed_decimal row.leaf)) _ (is_number-signed row.leaf fits.leaf) refl) in
    ap (λ b. cond b (Some Row) None) numbers

pub row-read : (row : RowEntry) → IsRowInRange row → IsPositive row.leaf → row_entry (codes "row" ∷ row_words row) ≡ Some row
row-read row fits positive =
    ap (λ (o : Option ℤ). option_and_then (λ (id : ℤ). option_and_then {U = RowEntry} (λ leaf. Some record { id = id; leaf = leaf }) (positive_of (signed_decimal row.leaf))) o) (number_of-signed row.id fits.id)
    ∙ ap (λ (o : Option ℤ). option_and_then {U = RowEntry} (λ leaf. Some record { id = row.id; leaf = leaf }) o) (positive_of-signed row.leaf fits.leaf positive)

-- a node's line
pub parent_in_range : (p : Option ℤ) → IfSome p IsLong → IfSome p IsPositive → IsParent p
parent_in_range None fits positive = tt
parent_in_range (Some z) fits positive = (fits, positive)

pub node-words : {D : ℕ} (node : NodeRow D) → IsNodeInRange node → IsNodeNumbered node → AreWords (node_words node)
node-words node fits numbered =
    let few : length node.cells < 2 ^ 63 = fits.few in
    let level : node.level < 256 = fits.level in (
      signed-word node.number fits.number,
      (
        decimal-word node.level (omega (arith, level)),
        (parent-word node.parent (parent_in_range node.parent fits.parent numbered.parent), (decimal-word (length node.cells) (omega (arith, few)), tt)),
      ),
    )

pub node-kind : {D : ℕ} (node : NodeRow D) → IsNodeInRange node → IsNodeNumbered node → kind_of (Some D) (codes "node" ∷ node_words node) ≡ Some Node
node-kind {D} node fits numbered =
    let level : node.level < 256 = fits.level in
    let rest : Option LineKind = cond (is_cell (Some D) (codes "node" ∷ node_words node)) (Some Cell) None in
    let numbers : is_node (codes "node" ∷ node_words node) ≡ true =
    and-true (is_number (signed_decimal node.number)) _ (is_number-signed node.number fits.number)
    (and-true (is_number (decimal node.level)) _ (is_number-count node.level (omega (arith, level)))
    (and-true (is_parent (parent_word node.parent)) _ (is_parent-word node.parent (parent_in_range node.parent fits.parent numbered.parent))
    (and-true (is_number (decimal (length node.cells))) _ (is_number-count (length node.cells) fits.few) refl))) in
    ap (λ b. cond b (Some Node) rest) numbers

abbrev pub head_of : {D : ℕ} → NodeRow D → NodeHead
head_of node = record { number = node.number; level = node.level; parent = node.parent; cells = length node.cells }

pub node-read : {D : ℕ} (node : NodeRow D) → IsNodeInRange node → IsNodeNumbered node → node_head (codes "node" ∷ node_words node) ≡ Some (head_of node)
node-read node fits numbered =
    let a = signed_decimal node.number in
    let b = decimal node.level in
    let p = parent_word node.parent in
    let c = decimal (length node.cells) in
    ap (λ (o : Option ℤ). option_and_then (λ (number : ℤ). option_and_then (λ (level : ℕ). option_and_then (λ (parent : Option ℤ). option_and_then {U = NodeHead}
    (λ cells. Some record { number = number; level = level; parent = parent; cells = cells }) (count_of c)) (parent_of p)) (byte_of b)) o) (positive_of-signed node.number fits.number numbered.number)
    ∙ ap (λ (o : Option ℕ). option_and_then (λ (level : ℕ). option_and_then (λ (parent : Option ℤ). option_and_then {U = NodeHead}
    (λ cells. Some record { number = node.number; level = level; parent = parent; cells = cells }) (count_of c)) (parent_of p)) o) (byte_of-decimal node.level fits.level)
    ∙ ap (λ (o : Option (Option ℤ)). option_and_then (λ (parent : Option ℤ). option_and_then {U = NodeHead}
    (λ cells. Some record { number = node.number; level = node.level; parent = parent; cells = cells }) (count_of c)) o) (parent_of-word node.parent (parent_in_range node.parent fits.parent numbered.parent))
    ∙ ap (λ (o : Option ℕ). option_and_then {U = NodeHead}
    (λ cells. Some record { number = node.number; level = node.level; parent = node.parent; cells = cells }) o) (count_of-decimal (length node.cells) fits.few)

-- the header
pub header-words : {D : ℕ} (s : ShadowLists D) → D ≤ 3 → IsCapacity s.capacity → IsLong s.root → length s.nodes < 2 ^ 63 → length s.rows < 2 ^ 63 → AreWords (header_words s)
header-words {D} s axes capacity root nodes rows =
    let most : s.capacity ≤ 51 = capacity.1 in (
      decimal-word D (omega (arith, axes)),
      (
        decimal-word s.capacity (omega (arith, most)),
        (
          signed-word s.root root,
          (decimal-word (length s.nodes) (omega (arith, nodes)), (decimal-word (length s.rows) (omega (arith, rows)), tt)),
        ),
      ),
    )

pub header-kind : {D : ℕ} (s : ShadowLists D) → D ≤ 3 → IsCapacity s.capacity → IsLong s.root → length s.nodes < 2 ^ 63 → length s.rows < 2 ^ 63
    → kind_of None (codes "rtree" ∷ header_words s) ≡ Some Header
header-kind {D} s axes capacity root nodes rows =
    let ws = codes "rtree" ∷ header_words s in
    let most : s.capacity ≤ 51 = capacity.1 in
    let numbers : are_numbers 5 (header_words s) ≡ true =
    and-true (is_number (decimal D)) _ (is_number-count D (omega (arith, axes)))
    (and-true (is_number (decimal s.capacity)) _ (is_number-count s.capacity (omega (arith, most)))
    (and-true (is_number (signed_decimal s.root)) _ (is_number-signed s.root root)
    (and-true (is_number (decimal (length s.nodes))) _ (is_number-count (length s.nodes) nodes)
    (and-true (is_number (decimal (length s.rows))) _ (is_number-count (length s.rows) rows) refl)))) in
    ap (λ b. cond b (Some Header) None) numbers

within : (least most n : ℕ) → least ≤ n → n ≤ most → (nat_le least n && nat_le n most) ≡ true
within least most n low high =
    let a : nat_le least n ≡ true = grind (arith, low) in
    let b : nat_le n most ≡ true = grind (arith, high) in
    and-true (nat_le least n) _ a b

axes-read : (n : ℕ) → 1 ≤ n → n ≤ 3 → axes_of (decimal n) ≡ Some n
axes-read n low high =
    ap (option_and_then (λ (n : ℕ). cond (nat_le 1 n && nat_le n 3) (Some n) None)) (byte_of-decimal n (omega (arith, high)))
    ∙ ap (λ b. cond b (Some n) None) (within 1 3 n low high)

capacity-read : (n : ℕ) → 5 ≤ n → n ≤ 51 → capacity_of (decimal n) ≡ Some n
capacity-read n low high =
    ap (option_and_then (λ (n : ℕ). cond (nat_le 5 n && nat_le n 51) (Some n) None)) (byte_of-decimal n (omega (arith, high)))
    ∙ ap (λ b. cond b (Some n) None) (within 5 51 n low high)

abbrev pub heading_of : {D : ℕ} → ShadowLists D → Heading
heading_of {D} s = record { axes = D; capacity = s.capacity; root = s.root; nodes = length s.nodes; rows = length s.rows }

pub header-read : {D : ℕ} (s : ShadowLists D) → 1 ≤ D → D ≤ 3 → IsCapacity s.capacity → IsLong s.root → IsPositive s.root → length s.nodes < 2 ^ 63 → length s.rows < 2 ^ 63
    → header_of (codes "rtree" ∷ header_words s) ≡ Some (heading_of s)
header-read {D} s some axes capacity root positive few_nodes few_rows =
    let r = signed_decimal s.root in
    let n = decimal (length s.nodes) in
    let t = decimal (length s.rows) in
    let m = decimal s.capacity in
    ap (λ (o : Option ℕ). option_and_then (λ (axes : ℕ). option_and_then (λ (capacity : ℕ). option_and_then (λ (root : ℤ). option_and_then (λ (nodes : ℕ). option_and_then {U = Heading}
    (λ rows. Some record { axes = axes; capacity = capacity; root = root; nodes = nodes; rows = rows })
    (count_of t)) (count_of n)) (positive_of r)) (capacity_of m)) o) (axes-read D some axes)
    ∙ ap (λ (o : Option ℕ). option_and_then (λ (capacity : ℕ). option_and_then (λ (root : ℤ). option_and_then (λ (nodes : ℕ). option_and_then {U = Heading}
    (λ rows. Some record { axes = D; capacity = capacity; root = root; nodes = nodes; rows = rows })
    (count_of t)) (count_of n)) (positive_of r)) o) (capacity-read s.capacity capacity.0 capacity.1)
    ∙ ap (λ (o : Option ℤ). option_and_then (λ (root : ℤ). option_and_then (λ (nodes : ℕ). option_and_then {U = Heading}
    (λ rows. Some record { axes = D; capacity = s.capacity; root = root; nodes = nodes; rows = rows })
    (count_of t)) (count_of n)) o) (positive_of-signed s.root root positive)
    ∙ ap (λ (o : Option ℕ). option_and_then (λ (nodes : ℕ). option_and_then {U = Heading}
    (λ rows. Some record { axes = D; capacity = s.capacity; root = s.root; nodes = nodes; rows = rows })
    (count_of t)) o) (count_of-decimal (length s.nodes) few_nodes)
    ∙ ap (λ (o : Option ℕ). option_and_then {U = Heading}
    (λ rows. Some record { axes = D; capacity = s.capacity; root = s.root; nodes = length s.nodes; rows = rows }) o) (count_of-decimal (length s.rows) few_rows)
