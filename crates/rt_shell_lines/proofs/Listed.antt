-- The values of a row whose numbers stand in a list of their own.
use Rattle.std.proofs.Common.{◌≡◌, ℕ, ℤ, List, [], ◌∷◌, ◌++◌, map, codes, refl, ap, sym, append_assoc, ◌∙◌}
use Rattle.std.specs.Fmt.{signed_decimal}
use Rattle.std.specs.List.{flat_map, join_by}
use Rattle.rt_sql_statement.specs.declared.value.Value.{Value}
use Rattle.rt_sql_statement.specs.declared.value.Value.TheVariants.{Int}
use Rattle.rt_shell_lines.specs.Lines.{value_text}

-- numbers behind bars and then values behind bars
pub bars-listed : (numbers : List ℤ) (values : List Value) →
    flat_map (λ number. codes "|" ++ signed_decimal number) numbers ++ flat_map (λ value. codes "|" ++ value_text value) values
    ≡ flat_map (λ value. codes "|" ++ value_text value) (map Int numbers ++ values)
bars-listed [] values = refl
bars-listed (number ∷ numbers) values =
    append_assoc (codes "|" ++ signed_decimal number) (flat_map (λ n. codes "|" ++ signed_decimal n) numbers) (flat_map (λ value. codes "|" ++ value_text value) values)
    ∙ ap (λ (text : List ℕ). (codes "|" ++ signed_decimal number) ++ text) (bars-listed numbers values)

-- a number, numbers behind bars, values behind bars, and what follows
pub listed-put : (number : ℤ) (numbers : List ℤ) (values : List Value) (rest : List ℕ) →
    signed_decimal number ++ (flat_map (λ n. codes "|" ++ signed_decimal n) numbers ++ (flat_map (λ value. codes "|" ++ value_text value) values ++ rest))
    ≡ join_by value_text (codes "|") (Int number ∷ map Int numbers ++ values) ++ rest
listed-put number numbers values rest =
    ap (λ (text : List ℕ). signed_decimal number ++ text)
    (sym (append_assoc (flat_map (λ n. codes "|" ++ signed_decimal n) numbers) (flat_map (λ value. codes "|" ++ value_text value) values) rest)
    ∙ ap (λ (text : List ℕ). text ++ rest) (bars-listed numbers values))
    ∙ sym (append_assoc (signed_decimal number) (flat_map (λ value. codes "|" ++ value_text value) (map Int numbers ++ values)) rest)
