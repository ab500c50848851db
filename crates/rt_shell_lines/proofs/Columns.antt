-- The columns of rows that are listed.
use Rattle.std.proofs.Common.{◌≡◌, ℕ, List, [], ◌∷◌, ◌++◌, ◌≤◌, ◌-◌, map, codes, take, drop, refl, ap, sym, append_assoc, ◌∙◌, arith}
use Rattle.std.specs.List.{flat_map, join_by, slice_range}
use Rattle.std.proofs.lemmas.List.{drop-map, take-map, drop-take}
use Rattle.std.proofs.lemmas.List.Folds.{flat_map-map}
use Rattle.rt_sql_statement.specs.declared.value.Value.{Value}
use Rattle.rt_tree_walk.specs.declared.searching.Row.{Row}
use Rattle.rt_reply.specs.Rows.{box_values, values_at}
use Rattle.rt_shell_lines.specs.Lines.{value_text, column_text, row_line}

mapped : (row : List Value) (places : List ℕ) →
    flat_map (λ place. codes "|" ++ column_text row place) places ≡ flat_map (λ value. codes "|" ++ value_text value) (values_at places row)
mapped row [] = refl
mapped row (place ∷ places) = ap (λ (text : List ℕ). (codes "|" ++ column_text row place) ++ text) (mapped row places)

joined : (row : List Value) (places : List ℕ) → join_by (column_text row) (codes "|") places ≡ join_by value_text (codes "|") (values_at places row)
joined row [] = refl
joined row (place ∷ places) = ap (λ (text : List ℕ). column_text row place ++ text) (mapped row places)

-- the columns with bars between them, and the line's end
pub columns-line : (row : List Value) (places : List ℕ) → join_by (column_text row) (codes "|") places ++ codes "\n" ≡ row_line (values_at places row)
columns-line row places = ap (λ (text : List ℕ). text ++ codes "\n") (joined row places)

pub columns-put : (row : List Value) (places : List ℕ) (rest : List ℕ) →
    join_by (column_text row) (codes "|") places ++ (codes "\n" ++ rest) ≡ row_line (values_at places row) ++ rest
columns-put row places rest =
    sym (append_assoc (join_by (column_text row) (codes "|") places) (codes "\n") rest) ∙ ap (λ (text : List ℕ). text ++ rest) (columns-line row places)

pub column_lines : (places : List ℕ) (rows lists : List (List Value)) → map (values_at places) rows ≡ lists → flat_map (λ row. row_line (values_at places row)) rows ≡ flat_map row_line lists
column_lines places [] lists same = ap (flat_map row_line) same
column_lines places (row ∷ rows) lists same =
    ap (λ (text : List ℕ). row_line (values_at places row) ++ text) (column_lines places rows (map (values_at places) rows) refl) ∙ ap (flat_map row_line) same

-- the lines of some of the rows that are ids and boxes
pub box_columns : {D : _} (places : List ℕ) (rows : List (Row D)) (lists : List (List Value)) (from to : ℕ) → from ≤ to → map box_values rows ≡ lists
    → flat_map (λ row. row_line (values_at places (box_values row))) (slice_range rows from to) ≡ flat_map (λ row. row_line (values_at places row)) (drop from (take to lists))
box_columns {D} places rows lists from to le same =
    let line : List Value → List ℕ = λ row. row_line (values_at places row) in
    let some : take (to - from) (drop from rows) ≡ drop from (take to rows) =
    sym (drop-take from (to - from) rows) ∙ ap (λ (n : ℕ). drop from (take n rows)) (omega arith) in
    ap (flat_map (λ (row : Row D). line (box_values row))) some
    ∙ sym (flat_map-map line box_values (drop from (take to rows)))
    ∙ ap (flat_map line) (sym (drop-map box_values from (take to rows)))
    ∙ ap (λ (parts : List (List Value)). flat_map line (drop from parts)) (sym (take-map box_values to rows))
    ∙ ap (λ (all : List (List Value)). flat_map line (drop from (take to all))) same
