-- Texts with each quote twice, part by part.
use Rattle.std.proofs.Common.{◌≡◌, ℕ, suc, ◌+◌, ◌-◌, ◌≤◌, Bool, true, false, ◌==◌, List, [], ◌∷◌, ◌++◌, length, take, drop, get_or, refl, ap, ◌∙◌, sym, append_assoc, take-append-drop, Some, None, arith}
use Rattle.std.specs.List.{position, position_or_len}
use Rattle.std.proofs.lemmas.Bool.Decides.{nat_tests}
use Rattle.std.proofs.lemmas.Grind.{common_steps}
use Rattle.std.proofs.lemmas.List.{take_more, take_rest}
use Rattle.std.proofs.lemmas.List.Quantifiers.{position-Some}
use Rattle.rt_sql.specs.Token.{double}

abbrev pub is_quote : ℕ → Bool
is_quote b = b == 39

test : {C : Type 0} (b : Bool) → (b ≡ true → C) → (b ≡ false → C) → C
test true f g = f refl
test false f g = g refl

pub doubled-append : (xs ys : List ℕ) → double 39 (xs ++ ys) ≡ double 39 xs ++ double 39 ys
doubled-append [] ys = refl
doubled-append (x ∷ xs) ys =
    test (x == 39)
    (λ e. rw (e, doubled-append xs ys) refl)
    (λ e. rw (e, doubled-append xs ys) refl)

-- nothing is doubled before the first quote
doubled-front : (xs : List ℕ) → double 39 (take (position_or_len is_quote xs) xs) ≡ take (position_or_len is_quote xs) xs
doubled-front [] = refl
doubled-front (x ∷ xs) =
    let next : 1 + position_or_len is_quote xs ≡ suc (position_or_len is_quote xs) = omega arith in
    test (x == 39) (λ e. rw e refl) (λ e. rw (e, next, e) (ap (λ l. x ∷ l) (doubled-front xs)))

is_front_length : (xs : List ℕ) (n : ℕ) → position is_quote xs ≡ Some n → n ≡ position_or_len is_quote xs
is_front_length xs n e = grind (arith, nat_tests, e)

byte_is : (x y : ℕ) → (x == y) ≡ true → x ≡ y
byte_is x y h = grind (arith, nat_tests)

pub doubled-upto_quote : (xs : List ℕ) (n : ℕ) → position is_quote xs ≡ Some n → double 39 (take (n + 1) xs) ≡ take (n + 1) xs ++ 39 ∷ []
doubled-upto_quote xs n e =
    let at = position-Some is_quote xs n 0 e in
    let quote : get_or xs n 0 ≡ 39 = byte_is _ _ at.1 in
    let ends : take (n + 1) xs ≡ take n xs ++ 39 ∷ [] = take_more xs n 0 at.0 ∙ ap (λ q. take n xs ++ q ∷ []) quote in
    let plain : double 39 (take n xs) ≡ take n xs = rw (is_front_length xs n e) (doubled-front xs) in
    ap (double 39) ends ∙ doubled-append (take n xs) (39 ∷ []) ∙ ap (λ l. l ++ 39 ∷ 39 ∷ []) plain
    ∙ sym (append_assoc (take n xs) (39 ∷ []) (39 ∷ [])) ∙ ap (λ l. l ++ 39 ∷ []) (sym ends)

pub doubled-no_quote : (xs : List ℕ) → position is_quote xs ≡ None → double 39 xs ≡ xs
doubled-no_quote xs e =
    let far : length xs ≤ position_or_len is_quote xs = grind (arith, nat_tests, e) in
    let whole : take (position_or_len is_quote xs) xs ≡ xs = grind (arith, common_steps) in
    ap (double 39) (sym whole) ∙ doubled-front xs ∙ whole

-- a text in three parts: what stands before the rest, the rest's front up to its first quote, and what follows
pub doubled-parts : (text done rest : List ℕ) (n : ℕ) → done ++ rest ≡ text → position is_quote rest ≡ Some n
    → double 39 done ++ (take (n + 1) rest ++ 39 ∷ []) ++ double 39 (drop (n + 1) rest) ≡ double 39 text
doubled-parts text done rest n is at =
    ap (λ l. double 39 done ++ l ++ double 39 (drop (n + 1) rest)) (sym (doubled-upto_quote rest n at))
    ∙ ap (λ l. l ++ double 39 (drop (n + 1) rest)) (sym (doubled-append done (take (n + 1) rest)))
    ∙ sym (doubled-append (done ++ take (n + 1) rest) (drop (n + 1) rest))
    ∙ ap (double 39) (append_assoc done (take (n + 1) rest) (drop (n + 1) rest) ∙ ap (λ l. done ++ l) (take-append-drop (n + 1) rest) ∙ is)

pub doubled-more : (done rest : List ℕ) (n : ℕ) → position is_quote rest ≡ Some n
    → double 39 done ++ (take (n + 1) rest ++ 39 ∷ []) ≡ double 39 (done ++ take (n + 1) rest)
doubled-more done rest n at =
    ap (λ l. double 39 done ++ l) (sym (doubled-upto_quote rest n at)) ∙ sym (doubled-append done (take (n + 1) rest))

pub goes_on : (text done rest : List ℕ) (n : ℕ) → done ++ rest ≡ text → (done ++ take n rest) ++ take (length rest - n) (drop n rest) ≡ text
goes_on text done rest n is =
    ap (λ l. (done ++ take n rest) ++ l) (take_rest rest n)
    ∙ append_assoc done (take n rest) (drop n rest) ∙ ap (λ l. done ++ l) (take-append-drop n rest) ∙ is

-- no quote is left
pub doubled-rest : (text done rest : List ℕ) → done ++ rest ≡ text → position is_quote rest ≡ None → double 39 done ++ rest ≡ double 39 text
doubled-rest text done rest is none =
    ap (λ l. double 39 done ++ l) (sym (doubled-no_quote rest none)) ∙ sym (doubled-append done rest) ∙ ap (double 39) is
