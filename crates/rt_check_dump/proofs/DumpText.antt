-- Lemmas on the text of a shadow.
use Rattle.std.proofs.Common.{◌≡◌, ℕ, ℤ, List, [], ◌∷◌, ◌++◌, refl, ap, ◌∙◌, append_assoc}
use Rattle.std.specs.List.{flat_map}
use Rattle.std.specs.Fmt.{signed_decimal}
use Rattle.rt_check_dump.specs.Dump.{line_rest, range_words, range_text}

-- ranges written one by one and then byte 10 are the end of a cell's line
pub line_rest-ranges : (rs : List (ℤ × ℤ)) → flat_map range_text rs ++ 10 ∷ [] ≡ line_rest (flat_map range_words rs)
line_rest-ranges [] = refl
line_rest-ranges (r ∷ rs) =
    let lo : List ℕ = 32 ∷ signed_decimal r.0 in
    let hi : List ℕ = 32 ∷ signed_decimal r.1 in
    append_assoc (lo ++ hi) (flat_map range_text rs) (10 ∷ [])
    ∙ append_assoc lo hi (flat_map range_text rs ++ 10 ∷ [])
    ∙ ap (λ l. lo ++ (hi ++ l)) (line_rest-ranges rs)
