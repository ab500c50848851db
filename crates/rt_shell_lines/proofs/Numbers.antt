-- Numbers as text, and the coordinates of a box behind bars.
use Rattle.std.proofs.Common.{◌≡◌, ℕ, ℤ, pos, negsuc, suc, ◌<◌, ◌≤◌, List, [], ◌∷◌, ◌++◌, codes, length, take, map, FitsSigned, w32, w64, refl, ap, sym, append_assoc, append-nil, ◌∙◌, arith}
use Rattle.std.specs.Prelude.{slice_index_or, decimal, unsigned_abs}
use Rattle.std.specs.Fmt.{signed_decimal}
use Rattle.std.specs.List.{flat_map}
use Rattle.std.proofs.lemmas.Fmt.{length_signed_le}
use Rattle.std.proofs.lemmas.Grind.{flat_map-append}
use Rattle.rt_sql_statement.specs.declared.value.Value.{Value}
use Rattle.rt_box.specs.declared.interval.Interval.{Interval}
use Rattle.rt_box.specs.Rect.{coordinates}
use Rattle.rt_tree_walk.specs.declared.searching.Row.{Row}
use Rattle.rt_table_row.proofs.Places.{coordinates_more}
use Rattle.rt_reply.specs.Rows.{box_values, id_values}
use Rattle.rt_shell_lines.specs.Lines.{row_line}
use Rattle.rt_shell_lines.proofs.Listed.{listed-put}

pub digits_fit : (z : ℤ) → length (decimal (unsigned_abs z)) ≤ length (signed_decimal z)
digits_fit (pos n) = omega arith
digits_fit (negsuc n) = omega arith

pub length_coordinate : (z : ℤ) → FitsSigned w32 z → length (signed_decimal z) ≤ 11
length_coordinate z fits = length_signed_le 10 z (omega (arith, fits.sfits)) (omega (arith, fits.sfits))

pub length_number : (z : ℤ) → FitsSigned w64 z → length (signed_decimal z) ≤ 20
length_number z fits = length_signed_le 19 z (omega (arith, fits.sfits)) (omega (arith, fits.sfits))

abbrev pub bar : ℤ → List ℕ
bar z = codes "|" ++ signed_decimal z

-- the coordinates of one axis more
pub coordinates-put : (sides : List Interval) (axis : ℕ) (range : Interval) (rest : List ℕ) → axis < length sides → range ≡ slice_index_or sides axis range →
    flat_map bar (coordinates (take axis sides)) ++ (bar range.lo ++ (bar range.hi ++ rest)) ≡ flat_map bar (coordinates (take (suc axis) sides)) ++ rest
coordinates-put sides axis range rest within is =
    let front = flat_map bar (coordinates (take axis sides)) in
    sym (ap (λ (zs : List ℤ). flat_map bar zs ++ rest) (coordinates_more sides axis range within is)
    ∙ ap (λ (text : List ℕ). text ++ rest) (flat_map-append bar (coordinates (take axis sides)) (range.lo ∷ range.hi ∷ []))
    ∙ append_assoc front (bar range.lo ++ (bar range.hi ++ [])) rest
    ∙ ap (λ (text : List ℕ). front ++ text) (append_assoc (bar range.lo) (bar range.hi ++ []) rest ∙ ap (λ (text : List ℕ). bar range.lo ++ (text ++ rest)) (append-nil (bar range.hi))))

-- an id and the coordinates behind bars, at the end of a line
pub box-put : {D : _} (row : Row D) (rest : List ℕ) →
    signed_decimal row.id ++ ((flat_map bar (coordinates row.rect) ++ codes "\n") ++ rest) ≡ row_line (box_values row) ++ rest
box-put row rest =
    ap (λ (text : List ℕ). signed_decimal row.id ++ text) (append_assoc (flat_map bar (coordinates row.rect)) (codes "\n") rest)
    ∙ listed-put row.id (coordinates row.rect) [] (codes "\n" ++ rest)
    ∙ sym (append_assoc _ (codes "\n") rest)

-- the lines of rows that are ids and boxes
pub box_lines : {D : _} (rows : List (Row D)) (lists : List (List Value)) → map box_values rows ≡ lists → flat_map (λ row. row_line (box_values row)) rows ≡ flat_map row_line lists
box_lines [] lists same = ap (flat_map row_line) same
box_lines (row ∷ rows) lists same =
    ap (λ (text : List ℕ). row_line (box_values row) ++ text) (box_lines rows (map box_values rows) refl) ∙ ap (flat_map row_line) same

-- an id alone, at the end of a line
pub id-put : (id : ℤ) (rest : List ℕ) → signed_decimal id ++ (codes "\n" ++ rest) ≡ row_line (id_values id) ++ rest
id-put id rest = listed-put id [] [] (codes "\n" ++ rest) ∙ sym (append_assoc _ (codes "\n") rest)

-- the lines of ids
pub id_lines : (ids : List ℤ) (lists : List (List Value)) → map id_values ids ≡ lists → flat_map (λ id. row_line (id_values id)) ids ≡ flat_map row_line lists
id_lines [] lists same = ap (flat_map row_line) same
id_lines (id ∷ ids) lists same =
    ap (λ (text : List ℕ). row_line (id_values id) ++ text) (id_lines ids (map id_values ids) refl) ∙ ap (flat_map row_line) same
