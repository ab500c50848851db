-- The words that are no names, by how long they are: of another length none is the same.
use Rattle.std.proofs.Common.{◌≡◌, ◌≢◌, arith, ℕ, Bool, true, false, ◌||◌, List, [], ◌∷◌, length, refl, sym, ap, ◌∙◌}
use Rattle.std.specs.Prelude.{codes, nat_eq, filter}
use Rattle.std.specs.List.{list_any}
use Rattle.std.specs.Char.{to_ascii_lowercase}
use Rattle.std.proofs.lemmas.Bool.Decides.{nat_tests}
use Rattle.std.proofs.lemmas.List.{length-map}
use Rattle.std.specs.Cmp.Lexicographic.{unequal}
use Rattle.rt_sql.specs.Token.{Text, same_word, is_reserved, reserved_words}

other_length : (word other : Text) → nat_eq (length other) (length word) ≡ false → same_word word other ≡ false
other_length word other e = unequal nat_eq _ _ (λ same. absurd (grind (arith, e, nat_tests, sym (length-map word to_ascii_lowercase) ∙ same ∙ length-map other to_ascii_lowercase)))

abbrev as_long : ℕ → List Text → List Text
as_long n words = filter (λ other. nat_eq (length other) n) words

by_length : (word : Text) (words : List Text) → list_any (same_word word) words ≡ list_any (same_word word) (as_long (length word) words)
by_length word [] = refl
by_length word (other ∷ words) = by (nat_eq (length other) (length word)) refl (by_length word words)
  where
    by : (b : Bool) → nat_eq (length other) (length word) ≡ b → list_any (same_word word) words ≡ list_any (same_word word) (as_long (length word) words) →
        list_any (same_word word) (other ∷ words) ≡ list_any (same_word word) (as_long (length word) (other ∷ words))
    by true e later = rw e (ap (λ b. same_word word other || b) later)
    by false e later = rw (e, other_length word other e) later

of_length : (word : Text) (n : ℕ) → length word ≡ n → is_reserved word ≡ list_any (same_word word) (as_long n reserved_words)
unfolding is_reserved
of_length word n e = by_length word reserved_words ∙ ap (λ m. list_any (same_word word) (as_long m reserved_words)) e

pub two : (word : Text) → length word ≡ 2 → is_reserved word ≡ list_any (same_word word) (codes "IS" ∷ codes "OR" ∷ [])
two word e = of_length word 2 e

pub three : (word : Text) → length word ≡ 3 → is_reserved word ≡ list_any (same_word word) (codes "AND" ∷ codes "NOT" ∷ codes "SET" ∷ [])
three word e = of_length word 3 e

pub four : (word : Text) → length word ≡ 4 → is_reserved word ≡ list_any (same_word word) (codes "DROP" ∷ codes "FROM" ∷ codes "INTO" ∷ codes "NULL" ∷ [])
four word e = of_length word 4 e

pub five : (word : Text) → length word ≡ 5 → is_reserved word ≡ list_any (same_word word) (codes "ORDER" ∷ codes "TABLE" ∷ codes "USING" ∷ codes "WHERE" ∷ [])
five word e = of_length word 5 e

pub six : (word : Text) → length word ≡ 6 →
    is_reserved word ≡ list_any (same_word word)
    (codes "CREATE" ∷ codes "DELETE" ∷ codes "EXISTS" ∷ codes "INSERT" ∷ codes "SELECT" ∷ codes "UPDATE" ∷ codes "VALUES" ∷ [])
six word e = of_length word 6 e

pub seven : (word : Text) → length word ≡ 7 → is_reserved word ≡ list_any (same_word word) (codes "BETWEEN" ∷ [])
seven word e = of_length word 7 e

other_than : (k n : ℕ) → n ≢ k → nat_eq k n ≡ false
other_than k n ne = by (nat_eq k n) refl
  where
    by : (b : Bool) → nat_eq k n ≡ b → b ≡ false
    by true e = absurd (ne (grind (arith, e, nat_tests)))
    by false e = refl

pub none : (word : Text) → length word ≢ 2 → length word ≢ 3 → length word ≢ 4 → length word ≢ 5 → length word ≢ 6 → length word ≢ 7 → is_reserved word ≡ false
none word n2 n3 n4 n5 n6 n7 =
    let n = length word in
    let e2 : nat_eq 2 n ≡ false = other_than 2 n n2 in
    let e3 : nat_eq 3 n ≡ false = other_than 3 n n3 in
    let e4 : nat_eq 4 n ≡ false = other_than 4 n n4 in
    let e5 : nat_eq 5 n ≡ false = other_than 5 n n5 in
    let e6 : nat_eq 6 n ≡ false = other_than 6 n n6 in
    let e7 : nat_eq 7 n ≡ false = other_than 7 n n7 in
    let empty : as_long n reserved_words ≡ [] = rw (e2, e3, e4, e5, e6, e7) refl in
    of_length word n refl ∙ ap (list_any (same_word word)) empty
