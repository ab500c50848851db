-- Lemmas on the words of a line.
use Rattle.std.proofs.Common.{◌≡◌, ℕ, suc, ◌+◌, ◌-◌, ◌<◌, List, [], ◌∷◌, Bool, true, false, ◌&&◌, refl, ap, arith}
use Rattle.std.specs.Prelude.{IsTrue, ◌↔◌}
use Rattle.rt_check_dump.specs.Lines.{are_numbers}
use Rattle.rt_check_dump.specs.Numbers.{is_number}

-- with a number to come there has to be a word
pub are_numbers-none : (n m : ℕ) → m < n → are_numbers (n - m) [] ≡ false
are_numbers-none n m more =
    let next : n - m ≡ suc (n - (m + 1)) = omega arith in
    ap (λ k. are_numbers k []) next

-- the next word has to be a number, and then the others
pub are_numbers-next : (n m : ℕ) (w : List ℕ) (ws : List (List ℕ)) → m < n
    → are_numbers (n - m) (w ∷ ws) ≡ (is_number w && are_numbers (n - (m + 1)) ws)
are_numbers-next n m w ws more =
    let next : n - m ≡ suc (n - (m + 1)) = omega arith in
    ap (λ k. are_numbers k (w ∷ ws)) next

-- with no number to come there may be no word
pub are_numbers-done : (done : Bool) (ws : List (List ℕ)) → (IsTrue done ↔ (ws ≡ [])) → done ≡ are_numbers 0 ws
are_numbers-done true [] h = refl
are_numbers-done true (w ∷ ws) h = let no : ⊥ = let e : w ∷ ws ≡ [] = h.0 refl in cc in absurd no
are_numbers-done false [] h = h.1 refl
are_numbers-done false (w ∷ ws) h = refl
