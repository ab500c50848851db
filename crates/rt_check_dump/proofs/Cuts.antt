-- Lemmas on a text's pieces.
use Rattle.std.proofs.Common.{◌≡◌, ℕ, suc, ◌+◌, ◌<◌, ◌≤◌, List, [], ◌∷◌, Bool, true, false, not, cond, refl, sym, ◌∙◌, ap, Option, Some, None, length, take, drop, arith}
use Rattle.std.specs.Prelude.{◌==◌}
use Rattle.std.specs.Borrow.{Bor}
use Rattle.std.specs.List.{position_or_len}
use Rattle.rt_check_dump.specs.Pieces.{pieces, pieces_left, onto_first}
use Rattle.rt_check_dump.specs.Lines.{words, kind_of, header_of}
use Rattle.rt_check_dump.specs.Reading.{read_lines, read_kind}

-- a text has a piece
onto_first-some : (b : ℕ) (ps : List (List ℕ)) → onto_first b ps ≡ [] → ⊥
onto_first-some b [] e = let no : ⊥ = cc in no
onto_first-some b (p ∷ ps) e = let no : ⊥ = cc in no

pub pieces-some : (separator : ℕ) (bs : List ℕ) → pieces separator bs ≡ [] → ⊥
pieces-some separator [] e = let no : ⊥ = cc in no
pieces-some separator (b ∷ bs) e =
    let by_case : (c : Bool) → cond c ([] ∷ pieces separator bs) (onto_first b (pieces separator bs)) ≡ [] → ⊥ = elim [
      | true ↦ λ h. let no : ⊥ = cc in no
      | false ↦ λ h. onto_first-some b (pieces separator bs) h
    ] in
    by_case (b == separator) e

-- what is left is nothing exactly where no text is left
pub done-none : (separator : ℕ) (rest : Option (Bor (List ℕ))) → pieces_left separator rest ≡ [] → rest ≡ None
done-none separator None e = refl
done-none separator (Some rest) e = absurd (pieces-some separator rest.now e)

-- with a separator at n the first piece is what stands before it
pub pieces-cut : (separator : ℕ) (bs : List ℕ) (n : ℕ) → n ≡ position_or_len (λ b. b == separator) bs → n < length bs
    → pieces separator bs ≡ take n bs ∷ pieces separator (drop (n + 1) bs)
pieces-cut separator [] n e within = let none : ⊥ = omega arith in absurd none
pieces-cut separator (b ∷ bs) n e within =
    let m = position_or_len (λ b. b == separator) bs in
    let by_case : (c : Bool) → n ≡ cond (not c) (1 + m) 0 → n < length (b ∷ bs)
    → cond c ([] ∷ pieces separator bs) (onto_first b (pieces separator bs)) ≡ take n (b ∷ bs) ∷ pieces separator (drop (n + 1) (b ∷ bs)) = elim [
      | true ↦ λ e within.
          let next : 0 + 1 ≡ suc 0 = omega arith in
          ap (λ k. take k (b ∷ bs) ∷ pieces separator (drop (k + 1) (b ∷ bs))) (sym e)
      | false ↦ λ e within.
          let same : n ≡ suc m = omega (arith, e) in
          let inside : m < length bs = omega (arith, within, same) in
          let next : suc m + 1 ≡ suc (m + 1) = omega arith in
          ap (onto_first b) (pieces-cut separator bs m refl inside)
          ∙ ap (λ k. (b ∷ take m bs) ∷ pieces separator (drop k (b ∷ bs))) (sym next)
          ∙ ap (λ k. take k (b ∷ bs) ∷ pieces separator (drop (k + 1) (b ∷ bs))) (sym same)
    ] in
    by_case (b == separator) e within

-- with no separator the text is its piece
pub pieces-whole : (separator : ℕ) (bs : List ℕ) → length bs ≤ position_or_len (λ b. b == separator) bs → pieces separator bs ≡ bs ∷ []
pieces-whole separator [] long = refl
pieces-whole separator (b ∷ bs) long =
    let m = position_or_len (λ b. b == separator) bs in
    let by_case : (c : Bool) → length (b ∷ bs) ≤ cond (not c) (1 + m) 0
    → cond c ([] ∷ pieces separator bs) (onto_first b (pieces separator bs)) ≡ (b ∷ bs) ∷ [] = elim [
      | true ↦ λ long. let none : ⊥ = omega (arith, long) in absurd none
      | false ↦ λ long.
          let inside : length bs ≤ m = omega (arith, long) in
          ap (onto_first b) (pieces-whole separator bs inside)
    ] in
    by_case (b == separator) long

length-onto_first : (b : ℕ) (ps : List (List ℕ)) → 0 < length ps → length (onto_first b ps) ≡ length ps
length-onto_first b [] some = let no : ⊥ = omega (arith, some) in absurd no
length-onto_first b (p ∷ ps) some = refl

-- there are pieces, at most one more than there are bytes
pub length-pieces : (separator : ℕ) (bs : List ℕ) → (0 < length (pieces separator bs)) × (length (pieces separator bs) ≤ length bs + 1)
length-pieces separator [] = (omega arith, omega arith)
length-pieces separator (b ∷ bs) =
    let rest = length-pieces separator bs in
    let same = length-onto_first b (pieces separator bs) rest.0 in
    elim (b == separator) as (λ c. (0 < length (cond c ([] ∷ pieces separator bs) (onto_first b (pieces separator bs))))
    × (length (cond c ([] ∷ pieces separator bs) (onto_first b (pieces separator bs))) ≤ length (b ∷ bs) + 1)) [
      | true ↦ (omega (arith, rest.0, rest.1), omega (arith, rest.0, rest.1))
      | false ↦ (omega (arith, rest.0, rest.1, same), omega (arith, rest.0, rest.1, same))
    ]

-- a first line is one where another piece follows
pub read_lines-first : (l : List ℕ) (ls : List (List ℕ)) → (ls ≡ [] → ⊥) → read_lines (l ∷ ls) ≡ read_kind (kind_of None (words l)) (header_of (words l)) ls
read_lines-first l [] some = absurd (some refl)
read_lines-first l (m ∷ ms) some = refl
