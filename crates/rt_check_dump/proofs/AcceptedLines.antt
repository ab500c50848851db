-- Lemmas on lines that are read, by their kinds: a line is the text of what it says.
use Rattle.std.proofs.Common.{◌≡◌, ℕ, suc, zero, ◌+◌, ◌*◌, ◌<◌, ℤ, List, [], ◌∷◌, Bool, true, false, ◌&&◌, cond, Option, Some, None, refl, sym, ◌∙◌, ap, zip, arith, codes, bytes_eq, option_map, option_and_then, flat_map}
use Rattle.std.specs.Prelude.{nat_le}
use Rattle.std.specs.Fmt.{decimal, signed_decimal}
use Rattle.std.proofs.lemmas.Bool.{and_parts}
use Rattle.rt_check.specs.declared.node.RawCell.{RawCell}
use Rattle.rt_check.specs.declared.node.RowEntry.{RowEntry}
use Rattle.rt_check_dump.specs.declared.lines.LineKind.{LineKind}
use Rattle.rt_check_dump.specs.declared.lines.LineKind.TheVariants.{Header, Node, Cell, Row, End}
use Rattle.rt_check_dump.specs.declared.lines.NodeHead.{NodeHead}
use Rattle.rt_check_dump.specs.declared.lines.Range.{Range}
use Rattle.rt_check_dump.specs.declared.reading.Heading.{Heading}
use Rattle.rt_check_dump.specs.Numbers.{is_number, number_of, positive_of, count_of, byte_of, coordinate_of, parent_of}
use Rattle.rt_check_dump.specs.Lines.{are_numbers, is_plain, is_parent, is_node, is_cell, kind_of, node_head, row_entry, ranges_of, raw_cell, axes_of, capacity_of, header_of}
use Rattle.rt_check_dump.specs.Dump.{line, parent_word, range_words, row_line, end_line, cell_line}
use Rattle.rt_check_dump.proofs.AcceptedWords.{ended, passed, same_word, text-positive, text-coordinate, text-count, text-byte, text-parent}
use Rattle.rt_check_dump.proofs.Spelled.{text-number}

-- the test of a kind among the tests of all of them
abbrev pub test_of : Bool → Bool → Bool → Bool → Bool → Option LineKind → Bool
test_of header node cell row end None = true
test_of header node cell row end (Some Header) = header
test_of header node cell row end (Some Node) = node
test_of header node cell row end (Some Cell) = cell
test_of header node cell row end (Some Row) = row
test_of header node cell row end (Some End) = end

test_of-first : (header node cell row end : Bool)
    → test_of header node cell row end (cond header (Some Header) (cond node (Some Node) (cond cell (Some Cell) (cond row (Some Row) (cond end (Some End) None))))) ≡ true
test_of-first true node cell row end = refl
test_of-first false true cell row end = refl
test_of-first false false true row end = refl
test_of-first false false false true end = refl
test_of-first false false false false true = refl
test_of-first false false false false false = refl

-- words of a kind are spelled as it
abbrev pub spelled : Option ℕ → List (List ℕ) → LineKind → Bool
spelled axes ws kind =
    test_of (is_plain (codes "rtree") 5 ws) (is_node ws) (is_cell axes ws) (is_plain (codes "row") 2 ws) (is_plain (codes "end") 0 ws) (Some kind)

pub kind_spelled : (axes : Option ℕ) (ws : List (List ℕ)) (kind : LineKind) → kind_of axes ws ≡ Some kind → spelled axes ws kind ≡ true
kind_spelled axes ws kind e =
    let header = is_plain (codes "rtree") 5 ws in
    let node = is_node ws in
    let cell = is_cell axes ws in
    let row = is_plain (codes "row") 2 ws in
    let end = is_plain (codes "end") 0 ws in
    ap (test_of header node cell row end) (sym e) ∙ test_of-first header node cell row end

-- no words after the last one
none : (ws : List (List ℕ)) → are_numbers 0 ws ≡ true → ws ≡ []
none [] e = refl
none (w ∷ ws) e = let no : ⊥ = cc in absurd no

pub head-parts : (number : Option ℤ) (level : Option ℕ) (parent : Option (Option ℤ)) (cells : Option ℕ) (h : NodeHead)
    → option_and_then {U = NodeHead} (λ number. option_and_then {U = NodeHead} (λ level. option_and_then {U = NodeHead} (λ parent. option_and_then {U = NodeHead}
    (λ cells. Some record { number = number; level = level; parent = parent; cells = cells }) cells) parent) level) number ≡ Some h
    → (number ≡ Some h.number) × (level ≡ Some h.level) × (parent ≡ Some h.parent) × (cells ≡ Some h.cells)
head-parts None level parent cells h e = let no : ⊥ = cc in absurd no
head-parts (Some number) None parent cells h e = let no : ⊥ = cc in absurd no
head-parts (Some number) (Some level) None cells h e = let no : ⊥ = cc in absurd no
head-parts (Some number) (Some level) (Some parent) None h e = let no : ⊥ = cc in absurd no
head-parts (Some number) (Some level) (Some parent) (Some cells) h e = (
  ap (option_map (λ (h : NodeHead). h.number)) e,
  ap (option_map (λ (h : NodeHead). h.level)) e,
  ap (option_map (λ (h : NodeHead). h.parent)) e,
  ap (option_map (λ (h : NodeHead). h.cells)) e,
)

-- a node's line
pub node-text : (ws : List (List ℕ)) (h : NodeHead) → is_node ws ≡ true → node_head ws ≡ Some h
    → ended ws ≡ line (codes "node") (signed_decimal h.number ∷ decimal h.level ∷ parent_word h.parent ∷ decimal h.cells ∷ [])
node-text [] h kind e = let no : ⊥ = cc in absurd no
node-text (k ∷ []) h kind e = let no : ⊥ = cc in absurd no
node-text (k ∷ a ∷ []) h kind e = let no : ⊥ = cc in absurd no
node-text (k ∷ a ∷ b ∷ []) h kind e = let no : ⊥ = cc in absurd no
node-text (k ∷ a ∷ b ∷ p ∷ []) h kind e = let no : ⊥ = cc in absurd no
node-text (k ∷ a ∷ b ∷ p ∷ c ∷ ws) h kind e =
    let parts = head-parts (positive_of a) (byte_of b) (parent_of p) (count_of c) h e in
    let first = and_parts (bytes_eq k (codes "node")) (is_number a && (is_number b && (is_parent p && (is_number c && are_numbers 0 ws)))) kind in
    let second = and_parts (is_number a) (is_number b && (is_parent p && (is_number c && are_numbers 0 ws))) first.1 in
    let third = and_parts (is_number b) (is_parent p && (is_number c && are_numbers 0 ws)) second.1 in
    let fourth = and_parts (is_parent p) (is_number c && are_numbers 0 ws) third.1 in
    let fifth = and_parts (is_number c) (are_numbers 0 ws) fourth.1 in
    ap (λ k. line k (a ∷ b ∷ p ∷ c ∷ ws)) (same_word k (codes "node") first.0)
    ∙ ap (λ a. line (codes "node") (a ∷ b ∷ p ∷ c ∷ ws)) (text-positive a h.number second.0 parts.0)
    ∙ ap (λ b. line (codes "node") (signed_decimal h.number ∷ b ∷ p ∷ c ∷ ws)) (text-byte b h.level third.0 parts.1)
    ∙ ap (λ p. line (codes "node") (signed_decimal h.number ∷ decimal h.level ∷ p ∷ c ∷ ws)) (text-parent p h.parent fourth.0 parts.2)
    ∙ ap (λ c. line (codes "node") (signed_decimal h.number ∷ decimal h.level ∷ parent_word h.parent ∷ c ∷ ws)) (text-count c h.cells fifth.0 parts.3)
    ∙ ap (λ ws. line (codes "node") (signed_decimal h.number ∷ decimal h.level ∷ parent_word h.parent ∷ decimal h.cells ∷ ws)) (none ws fifth.1)

pub row-parts : (id leaf : Option ℤ) (r : RowEntry)
    → option_and_then {U = RowEntry} (λ id. option_and_then {U = RowEntry} (λ leaf. Some record { id = id; leaf = leaf }) leaf) id ≡ Some r
    → (id ≡ Some r.id) × (leaf ≡ Some r.leaf)
row-parts None leaf r e = let no : ⊥ = cc in absurd no
row-parts (Some id) None r e = let no : ⊥ = cc in absurd no
row-parts (Some id) (Some leaf) r e = (ap (option_map (λ (r : RowEntry). r.id)) e, ap (option_map (λ (r : RowEntry). r.leaf)) e)

-- a row's line
pub row-text : (ws : List (List ℕ)) (r : RowEntry) → is_plain (codes "row") 2 ws ≡ true → row_entry ws ≡ Some r → ended ws ≡ row_line r
row-text [] r kind e = let no : ⊥ = cc in absurd no
row-text (k ∷ []) r kind e = let no : ⊥ = cc in absurd no
row-text (k ∷ a ∷ []) r kind e = let no : ⊥ = cc in absurd no
row-text (k ∷ a ∷ b ∷ ws) r kind e =
    let parts = row-parts (number_of a) (positive_of b) r e in
    let first = and_parts (bytes_eq k (codes "row")) (is_number a && (is_number b && are_numbers 0 ws)) kind in
    let second = and_parts (is_number a) (is_number b && are_numbers 0 ws) first.1 in
    let third = and_parts (is_number b) (are_numbers 0 ws) second.1 in
    ap (λ k. line k (a ∷ b ∷ ws)) (same_word k (codes "row") first.0)
    ∙ ap (λ a. line (codes "row") (a ∷ b ∷ ws)) (text-number a r.id second.0 parts.0)
    ∙ ap (λ b. line (codes "row") (signed_decimal r.id ∷ b ∷ ws)) (text-positive b r.leaf third.0 parts.1)
    ∙ ap (λ ws. line (codes "row") (signed_decimal r.id ∷ signed_decimal r.leaf ∷ ws)) (none ws third.1)

-- the end's line
pub end-text : (ws : List (List ℕ)) → is_plain (codes "end") 0 ws ≡ true → ended ws ≡ end_line
end-text [] kind = let no : ⊥ = cc in absurd no
end-text (k ∷ ws) kind =
    let first = and_parts (bytes_eq k (codes "end")) (are_numbers 0 ws) kind in
    ap (λ k. line k ws) (same_word k (codes "end") first.0) ∙ ap (λ ws. line (codes "end") ws) (none ws first.1)

pub range-parts : (lo hi : Option ℤ) (rest : Option (List ℤ × List ℤ)) (rs : List ℤ × List ℤ)
    → option_and_then {U = List ℤ × List ℤ} (λ (r : Range). option_map {U = List ℤ × List ℤ} (λ rs. (r.lo ∷ rs.0, r.hi ∷ rs.1)) rest)
    (option_and_then {U = Range} (λ lo. option_and_then {U = Range} (λ hi. Some record { lo = lo; hi = hi }) hi) lo) ≡ Some rs
    → (l h : ℤ) × (vs : List ℤ × List ℤ) × (lo ≡ Some l) × (hi ≡ Some h) × (rest ≡ Some vs) × (rs ≡ (l ∷ vs.0, h ∷ vs.1))
range-parts None hi rest rs e = let no : ⊥ = cc in absurd no
range-parts (Some l) None rest rs e = let no : ⊥ = cc in absurd no
range-parts (Some l) (Some h) None rs e = let no : ⊥ = cc in absurd no
range-parts (Some l) (Some h) (Some vs) rs e =
    let same : (l ∷ vs.0, h ∷ vs.1) ≡ rs = cc in (l, h, vs, refl, refl, refl, sym same)

-- the words of ranges
ranges-text : (n : ℕ) (ws : List (List ℕ)) (rs : List ℤ × List ℤ) → are_numbers (2 * n) ws ≡ true → ranges_of n ws ≡ Some rs
    → ws ≡ flat_map range_words (zip rs.0 rs.1)
ranges-text zero ws rs kind e =
    let same : ([], []) ≡ rs = cc in none ws kind ∙ ap (λ (rs : List ℤ × List ℤ). flat_map range_words (zip rs.0 rs.1)) same
ranges-text (suc n) [] rs kind e = let no : ⊥ = cc in absurd no
ranges-text (suc n) (a ∷ []) rs kind e = let no : ⊥ = cc in absurd no
ranges-text (suc n) (a ∷ b ∷ ws) rs kind e =
    let two : 2 * suc n ≡ suc (suc (2 * n)) = omega arith in
    let first = and_parts (is_number a) (is_number b && are_numbers (2 * n) ws) (ap (λ k. are_numbers k (a ∷ b ∷ ws)) (sym two) ∙ kind) in
    let second = and_parts (is_number b) (are_numbers (2 * n) ws) first.1 in
    let parts = range-parts (coordinate_of a) (coordinate_of b) (ranges_of n ws) rs e in
    ap (λ a. a ∷ b ∷ ws) (text-coordinate a parts.0 first.0 parts.3)
    ∙ ap (λ b. signed_decimal parts.0 ∷ b ∷ ws) (text-coordinate b parts.1 second.0 parts.4)
    ∙ ap (λ ws. signed_decimal parts.0 ∷ signed_decimal parts.1 ∷ ws) (ranges-text n ws parts.2 second.1 parts.5)
    ∙ ap (λ (rs : List ℤ × List ℤ). flat_map range_words (zip rs.0 rs.1)) (sym parts.6)

pub cell-parts : (D : ℕ) (number : Option ℤ) (ranges : Option (List ℤ × List ℤ)) (c : RawCell D)
    → option_and_then {U = RawCell D} (λ number. option_map {U = RawCell D} (λ r. record { number = number; lo = r.0; hi = r.1 }) ranges) number ≡ Some c
    → (number ≡ Some c.number) × (ranges ≡ Some (c.lo, c.hi))
cell-parts D None ranges c e = let no : ⊥ = cc in absurd no
cell-parts D (Some number) None c e = let no : ⊥ = cc in absurd no
cell-parts D (Some number) (Some r) c e = (ap (option_map (λ (c : RawCell D). c.number)) e, ap (option_map (λ (c : RawCell D). (c.lo, c.hi))) e)

-- a cell's line on one axis or more
pub cell-text : (D : ℕ) (ws : List (List ℕ)) (c : RawCell D) → 0 < D → is_cell (Some D) ws ≡ true → raw_cell D ws ≡ Some c → ended ws ≡ cell_line c
cell-text D ws c some kind e =
    let next : 1 + 2 * D ≡ suc (2 * D) = omega arith in
    let plain : is_plain (codes "cell") (suc (2 * D)) ws ≡ true =
    ap (λ k. is_plain (codes "cell") k ws) (sym next)
    ∙ kind in
    by_words ws plain e
  where
    by_words : (ws : List (List ℕ)) → is_plain (codes "cell") (suc (2 * D)) ws ≡ true → raw_cell D ws ≡ Some c → ended ws ≡ cell_line c
    by_words [] kind e = let no : ⊥ = cc in absurd no
    by_words (k ∷ []) kind e = let no : ⊥ = cc in absurd no
    by_words (k ∷ a ∷ ws) kind e =
        let parts = cell-parts D (number_of a) (ranges_of D ws) c e in
        let first = and_parts (bytes_eq k (codes "cell")) (is_number a && are_numbers (2 * D) ws) kind in
        let second = and_parts (is_number a) (are_numbers (2 * D) ws) first.1 in
        ap (λ k. line k (a ∷ ws)) (same_word k (codes "cell") first.0)
        ∙ ap (λ a. line (codes "cell") (a ∷ ws)) (text-number a c.number second.0 parts.0)
        ∙ ap (λ ws. line (codes "cell") (signed_decimal c.number ∷ ws)) (ranges-text D ws (c.lo, c.hi) second.1 parts.1)

pub heading-parts : (axes capacity : Option ℕ) (root : Option ℤ) (nodes rows : Option ℕ) (h : Heading)
    → option_and_then {U = Heading} (λ axes. option_and_then {U = Heading} (λ capacity. option_and_then {U = Heading} (λ root. option_and_then {U = Heading}
    (λ nodes. option_and_then {U = Heading} (λ rows. Some record { axes = axes; capacity = capacity; root = root; nodes = nodes; rows = rows })
    rows) nodes) root) capacity) axes ≡ Some h
    → (axes ≡ Some h.axes) × (capacity ≡ Some h.capacity) × (root ≡ Some h.root) × (nodes ≡ Some h.nodes) × (rows ≡ Some h.rows)
heading-parts None capacity root nodes rows h e = let no : ⊥ = cc in absurd no
heading-parts (Some axes) None root nodes rows h e = let no : ⊥ = cc in absurd no
heading-parts (Some axes) (Some capacity) None nodes rows h e = let no : ⊥ = cc in absurd no
heading-parts (Some axes) (Some capacity) (Some root) None rows h e = let no : ⊥ = cc in absurd no
heading-parts (Some axes) (Some capacity) (Some root) (Some nodes) None h e = let no : ⊥ = cc in absurd no
heading-parts (Some axes) (Some capacity) (Some root) (Some nodes) (Some rows) h e = (
  ap (option_map (λ (h : Heading). h.axes)) e,
  ap (option_map (λ (h : Heading). h.capacity)) e,
  ap (option_map (λ (h : Heading). h.root)) e,
  ap (option_map (λ (h : Heading). h.nodes)) e,
  ap (option_map (λ (h : Heading). h.rows)) e,
)

-- an axis count is from 1 to 3
pub axes-range : (o : Option ℕ) (n : ℕ) → option_and_then (λ n. cond (nat_le 1 n && nat_le n 3) (Some n) None) o ≡ Some n → (nat_le 1 n && nat_le n 3) ≡ true
axes-range None n e = let no : ⊥ = cc in absurd no
axes-range (Some m) n e =
    let by_case : (b : Bool) → (nat_le 1 m && nat_le m 3) ≡ b → cond b (Some m) None ≡ Some n → (nat_le 1 n && nat_le n 3) ≡ true = elim [
      | true ↦ λ is e. let same : m ≡ n = cc in ap (λ n. nat_le 1 n && nat_le n 3) (sym same) ∙ is
      | false ↦ λ is e. let no : ⊥ = cc in absurd no
    ] in
    by_case (nat_le 1 m && nat_le m 3) refl e

-- the header's line
pub header-text : (ws : List (List ℕ)) (h : Heading) → is_plain (codes "rtree") 5 ws ≡ true → header_of ws ≡ Some h
    → (ended ws ≡ line (codes "rtree") (decimal h.axes ∷ decimal h.capacity ∷ signed_decimal h.root ∷ decimal h.nodes ∷ decimal h.rows ∷ []))
    × ((nat_le 1 h.axes && nat_le h.axes 3) ≡ true)
header-text [] h kind e = let no : ⊥ = cc in absurd no
header-text (k ∷ []) h kind e = let no : ⊥ = cc in absurd no
header-text (k ∷ a ∷ []) h kind e = let no : ⊥ = cc in absurd no
header-text (k ∷ a ∷ m ∷ []) h kind e = let no : ⊥ = cc in absurd no
header-text (k ∷ a ∷ m ∷ r ∷ []) h kind e = let no : ⊥ = cc in absurd no
header-text (k ∷ a ∷ m ∷ r ∷ n ∷ []) h kind e = let no : ⊥ = cc in absurd no
header-text (k ∷ a ∷ m ∷ r ∷ n ∷ t ∷ ws) h kind e =
    let parts = heading-parts (axes_of a) (capacity_of m) (positive_of r) (count_of n) (count_of t) h e in
    let first = and_parts (bytes_eq k (codes "rtree")) (is_number a && (is_number m && (is_number r && (is_number n && (is_number t && are_numbers 0 ws))))) kind in
    let second = and_parts (is_number a) (is_number m && (is_number r && (is_number n && (is_number t && are_numbers 0 ws)))) first.1 in
    let third = and_parts (is_number m) (is_number r && (is_number n && (is_number t && are_numbers 0 ws))) second.1 in
    let fourth = and_parts (is_number r) (is_number n && (is_number t && are_numbers 0 ws)) third.1 in
    let fifth = and_parts (is_number n) (is_number t && are_numbers 0 ws) fourth.1 in
    let sixth = and_parts (is_number t) (are_numbers 0 ws) fifth.1 in
    let axes = passed (λ n. nat_le 1 n && nat_le n 3) (byte_of a) h.axes parts.0 in
    let capacity = passed (λ n. nat_le 5 n && nat_le n 51) (byte_of m) h.capacity parts.1 in (
      ap (λ k. line k (a ∷ m ∷ r ∷ n ∷ t ∷ ws)) (same_word k (codes "rtree") first.0)
          ∙ ap (λ a. line (codes "rtree") (a ∷ m ∷ r ∷ n ∷ t ∷ ws)) (text-byte a h.axes second.0 axes)
          ∙ ap (λ m. line (codes "rtree") (decimal h.axes ∷ m ∷ r ∷ n ∷ t ∷ ws)) (text-byte m h.capacity third.0 capacity)
          ∙ ap (λ r. line (codes "rtree") (decimal h.axes ∷ decimal h.capacity ∷ r ∷ n ∷ t ∷ ws)) (text-positive r h.root fourth.0 parts.2)
          ∙ ap (λ n. line (codes "rtree") (decimal h.axes ∷ decimal h.capacity ∷ signed_decimal h.root ∷ n ∷ t ∷ ws)) (text-count n h.nodes fifth.0 parts.3)
          ∙ ap (λ t. line (codes "rtree") (decimal h.axes ∷ decimal h.capacity ∷ signed_decimal h.root ∷ decimal h.nodes ∷ t ∷ ws)) (text-count t h.rows sixth.0 parts.4)
          ∙ ap (λ ws. line (codes "rtree") (decimal h.axes ∷ decimal h.capacity ∷ signed_decimal h.root ∷ decimal h.nodes ∷ decimal h.rows ∷ ws)) (none ws sixth.1),
      axes-range (byte_of a) h.axes parts.0,
    )
