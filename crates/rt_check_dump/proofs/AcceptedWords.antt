-- Lemmas on words and lines that are read: their bytes are the text of what they say.
use Rattle.std.proofs.Common.{◌≡◌, ℕ, ℤ, pos, negsuc, List, [], ◌∷◌, ◌++◌, Bool, true, false, ◌&&◌, ◌||◌, cond, Option, Some, None, refl, sym, ◌∙◌, ap, arith, bytes_eq, option_map, option_and_then}
use Rattle.std.specs.Prelude.{nat_lt, ◌==◌, int_le}
use Rattle.std.specs.Fmt.{decimal, signed_decimal}
use Rattle.std.proofs.lemmas.Slice.Eq.{bytes_eq-Decides}
use Rattle.rt_check_dump.specs.Pieces.{pieces, onto_first}
use Rattle.rt_check_dump.specs.Numbers.{is_number, number_of, positive_of, count_from, count_of, byte_of, coordinate_of, parent_of}
use Rattle.rt_check_dump.specs.Lines.{words, is_parent}
use Rattle.rt_check_dump.specs.Dump.{line_rest, line, parent_word}
use Rattle.rt_check_dump.proofs.Cuts.{pieces-some}
use Rattle.rt_check_dump.proofs.Spelled.{text-number}

-- words with a space between any two, and byte 10
abbrev pub ended : List (List ℕ) → List ℕ
ended [] = 10 ∷ []
ended (w ∷ ws) = line w ws

ended-onto_first : (b : ℕ) (ps : List (List ℕ)) → ended (onto_first b ps) ≡ b ∷ ended ps
ended-onto_first b [] = refl
ended-onto_first b (p ∷ ps) = refl

line_rest-ended : (ps : List (List ℕ)) → (ps ≡ [] → ⊥) → line_rest ps ≡ 32 ∷ ended ps
line_rest-ended [] some = absurd (some refl)
line_rest-ended (p ∷ ps) some = refl

-- a line's words make the line again
pub ended-words : (l : List ℕ) → ended (words l) ≡ l ++ 10 ∷ []
ended-words [] = refl
ended-words (b ∷ bs) =
    let by_case : (c : Bool) → (b == 32) ≡ c → ended (cond c ([] ∷ pieces 32 bs) (onto_first b (pieces 32 bs))) ≡ b ∷ (bs ++ 10 ∷ []) = elim [
      | true ↦ λ e.
          let space : b ≡ 32 = grind (arith, e) in
          line_rest-ended (pieces 32 bs) (pieces-some 32 bs) ∙ ap (λ l. 32 ∷ l) (ended-words bs) ∙ ap (λ k. k ∷ (bs ++ 10 ∷ [])) (sym space)
      | false ↦ λ e. ended-onto_first b (pieces 32 bs) ∙ ap (λ l. b ∷ l) (ended-words bs)
    ] in
    by_case (b == 32) refl

-- lines with byte 10 between any two
abbrev pub joined : List (List ℕ) → List ℕ
joined [] = []
joined (l ∷ []) = l
joined (l ∷ m ∷ ms) = l ++ 10 ∷ joined (m ∷ ms)

joined-onto_first : (b : ℕ) (ps : List (List ℕ)) → joined (onto_first b ps) ≡ b ∷ joined ps
joined-onto_first b [] = refl
joined-onto_first b (p ∷ []) = refl
joined-onto_first b (p ∷ q ∷ qs) = refl

joined-first : (ps : List (List ℕ)) → (ps ≡ [] → ⊥) → joined ([] ∷ ps) ≡ 10 ∷ joined ps
joined-first [] some = absurd (some refl)
joined-first (p ∷ ps) some = refl

-- a text's lines make the text again
pub joined-pieces : (text : List ℕ) → joined (pieces 10 text) ≡ text
joined-pieces [] = refl
joined-pieces (b ∷ bs) =
    let by_case : (c : Bool) → (b == 10) ≡ c → joined (cond c ([] ∷ pieces 10 bs) (onto_first b (pieces 10 bs))) ≡ b ∷ bs = elim [
      | true ↦ λ e.
          let newline : b ≡ 10 = grind (arith, e) in
          joined-first (pieces 10 bs) (pieces-some 10 bs) ∙ ap (λ l. 10 ∷ l) (joined-pieces bs) ∙ ap (λ k. k ∷ bs) (sym newline)
      | false ↦ λ e. joined-onto_first b (pieces 10 bs) ∙ ap (λ l. b ∷ l) (joined-pieces bs)
    ] in
    by_case (b == 10) refl

kept : {X : Type 0} (b : Bool) (x z : X) → cond b (Some x) None ≡ Some z → Some x ≡ Some z
kept true x z e = e
kept false x z e = let no : ⊥ = cc in absurd no

-- what passes a test is what was tested
pub passed : {X : Type 0} (test : X → Bool) (o : Option X) (z : X) → option_and_then (λ x. cond (test x) (Some x) None) o ≡ Some z → o ≡ Some z
passed test None z e = let no : ⊥ = cc in absurd no
passed test (Some x) z e = kept (test x) x z e

pub counted : (o : Option ℤ) (n : ℕ) → option_and_then count_from o ≡ Some n → o ≡ Some (pos n)
counted None n e = let no : ⊥ = cc in absurd no
counted (Some (pos m)) n e = ap (option_map pos) e
counted (Some (negsuc m)) n e = let no : ⊥ = cc in absurd no

-- a word that is a number is the text of what is read
pub text-positive : (w : List ℕ) (z : ℤ) → is_number w ≡ true → positive_of w ≡ Some z → w ≡ signed_decimal z
text-positive w z spelled e = text-number w z spelled (passed (int_le (pos 1)) (number_of w) z e)

pub text-coordinate : (w : List ℕ) (z : ℤ) → is_number w ≡ true → coordinate_of w ≡ Some z → w ≡ signed_decimal z
text-coordinate w z spelled e =
    text-number w z spelled (passed (λ z. int_le (negsuc 2147483647) z && int_le z (pos 2147483647)) (number_of w) z e)

pub text-count : (w : List ℕ) (n : ℕ) → is_number w ≡ true → count_of w ≡ Some n → w ≡ decimal n
text-count w n spelled e = text-number w (pos n) spelled (counted (number_of w) n e)

pub text-byte : (w : List ℕ) (n : ℕ) → is_number w ≡ true → byte_of w ≡ Some n → w ≡ decimal n
text-byte w n spelled e = text-count w n spelled (passed (λ n. nat_lt n 256) (count_of w) n e)

-- a word for a parent is the text of the parent that is read
pub text-parent : (w : List ℕ) (p : Option ℤ) → is_parent w ≡ true → parent_of w ≡ Some p → w ≡ parent_word p
text-parent w p spelled e =
    let by_number : (o : Option ℤ) → positive_of w ≡ o → is_number w ≡ true → option_map {U = Option ℤ} (λ z. Some z) o ≡ Some p → w ≡ parent_word p = elim [
      | None ↦ λ was number e. let no : ⊥ = cc in absurd no
      | Some z ↦ λ was number e. let same : Some z ≡ p = cc in text-positive w z number was ∙ ap parent_word same
    ] in
    let by_case : (c : Bool) → bytes_eq w (45 ∷ []) ≡ c → (c || is_number w) ≡ true
    → cond c (Some None) (option_map {U = Option ℤ} (λ z. Some z) (positive_of w)) ≡ Some p → w ≡ parent_word p = elim [
      | true ↦ λ is spelled e. let same : None ≡ p = cc in (bytes_eq-Decides w (45 ∷ [])).0 is ∙ ap parent_word same
      | false ↦ λ is spelled e. by_number (positive_of w) refl spelled e
    ] in
    by_case (bytes_eq w (45 ∷ [])) refl spelled e

-- words equal by the test are equal
pub same_word : (v w : List ℕ) → bytes_eq v w ≡ true → v ≡ w
same_word v w e = (bytes_eq-Decides v w).0 e
