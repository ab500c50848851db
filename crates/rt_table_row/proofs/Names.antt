-- A list of names, gone through with the set of those before.
use Rattle.std.proofs.Common.{◌≡◌, ℕ, zero, suc, ◌+◌, ◌<◌, nat_lt, Some, arith, ◌∙◌, Bool, true, false, not, ◌&&◌, ◌||◌, List, [], ◌∷◌, get_or, drop, length, cond, refl}
use Rattle.std.proofs.lemmas.List.{drop_more}
use Rattle.std.proofs.lemmas.Bool.Decides.{nat_tests}
use Rattle.std.specs.List.{list_all, list_any, position_or_len}
use Rattle.std.specs.Cmp.{IsEquivalence}
use Rattle.std.specs.Cmp.Lexicographic.{on_texts_equal}
use Rattle.std.specs.Str.{str_to_ascii_lowercase}
use Rattle.rt_sql_statement.specs.Name.{same_name}
use Rattle.rt_table_row.specs.Columns.{place_of, has_name, are_distinct}
use Rattle.rt_table_row.proofs.Boxes.{head, tail}

pub either : (a b : Bool) → cond a true b ≡ (a || b)
either true b = refl
either false b = refl

pub neither : (a b : Bool) → (a || b) ≡ false → (a ≡ false) × (b ≡ false)
neither true b e = cc
neither false b e = (refl, e)

pub denied : (a : Bool) → not a ≡ true → a ≡ false
denied true e = cc
denied false e = refl

-- no name was seen before, and none stands twice
abbrev pub are_new : (List ℕ → Bool) → List (List ℕ) → Bool
are_new seen names = list_all (λ name. not (seen name)) names && are_distinct names

-- here, and in the rest: a name isn't the new one, and wasn't seen
unseen : (a b any all : Bool) → (not (a || b) && (not any && all)) ≡ (not (a || any) && (not b && all))
unseen true b any all = refl
unseen false true true all = refl
unseen false true false all = refl
unseen false false any all = refl

unseen_all : (seen after : List ℕ → Bool) (name : List ℕ) (names : List (List ℕ)) → ((q : List ℕ) → after q ≡ (same_name name q || seen q)) →
    list_all (λ q. not (after q)) names ≡ (not (has_name names name) && list_all (λ q. not (seen q)) names)
unseen_all seen after name [] e = refl
unseen_all seen after name (q ∷ names) e =
    rw (e q, unseen_all seen after name names e) (unseen (same_name name q) (seen q) (has_name names name) (list_all (λ q. not (seen q)) names))

both : (s h a d : Bool) → ((not s && a) && (not h && d)) ≡ (not s && ((not h && a) && d))
both true h a d = refl
both false true true d = refl
both false true false d = refl
both false false a d = refl

new_step : (seen after : List ℕ → Bool) (name : List ℕ) (names : List (List ℕ)) → ((q : List ℕ) → after q ≡ (same_name name q || seen q)) →
    are_new seen (name ∷ names) ≡ (not (seen name) && are_new after names)
new_step seen after name names e =
    rw (unseen_all seen after name names e) (both (seen name) (has_name names name) (list_all (λ q. not (seen q)) names) (are_distinct names))

-- a name that is new joins those that were seen
pub new_more : (seen after : List ℕ → Bool) (names : List (List ℕ)) (i : ℕ) (name : List ℕ) → i < length names → name ≡ get_or names i name →
    ((q : List ℕ) → after q ≡ (same_name name q || seen q)) → are_new seen (drop i names) ≡ (not (seen name) && are_new after (drop (i + 1) names))
new_more seen after names i name h is e =
    let more : drop i names ≡ get_or names i name ∷ drop (i + 1) names = drop_more names i name h in
    let here : drop i names ≡ name ∷ drop (i + 1) names = rw (← is) at more in
    rw here (new_step seen after name (drop (i + 1) names) e)

none_seen : (seen : List ℕ → Bool) (names : List (List ℕ)) → ((q : List ℕ) → seen q ≡ false) → list_all (λ q. not (seen q)) names ≡ true
none_seen seen [] e = refl
none_seen seen (name ∷ names) e = rw (e name) (none_seen seen names e)

-- before the first nothing was seen
pub new_first : (seen : List ℕ → Bool) (names : List (List ℕ)) → ((q : List ℕ) → seen q ≡ false) → are_distinct names ≡ are_new seen names
new_first seen names e = rw (none_seen seen names e) refl

-- ---- where distinct names stand

pub same_laws : IsEquivalence same_name
same_laws = on_texts_equal str_to_ascii_lowercase

-- where none passes, each fails
pub fails_each : {X : Type 0} (q : X → Bool) (xs : List X) (k : ℕ) (d : X) → k < length xs → list_any q xs ≡ false → q (get_or xs k d) ≡ false
fails_each q [] k d h e = absurd (omega arith)
fails_each q (x ∷ xs) zero d h e = (neither (q x) (list_any q xs) e).0
fails_each q (x ∷ xs) (suc k) d h e = fails_each q xs k d (omega arith) (neither (q x) (list_any q xs) e).1

steps_to : (names : List (List ℕ)) (k : ℕ) (d : List ℕ) → are_distinct names ≡ true → k < length names → position_or_len (same_name (get_or names k d)) names ≡ k
steps_to [] k d e h = absurd (omega arith)
steps_to (x ∷ xs) zero d e h = rw (same_laws.refl x) refl
steps_to (x ∷ xs) (suc k) d e h =
    let first : has_name xs x ≡ false = denied (has_name xs x) (head (not (has_name xs x)) (are_distinct xs) e) in
    let other : same_name (get_or xs k d) x ≡ false = same_laws.symm (get_or xs k d) x ∙ fails_each (same_name x) xs k d (omega arith) first in
    let later : position_or_len (same_name (get_or xs k d)) xs ≡ k = steps_to xs k d (tail (not (has_name xs x)) (are_distinct xs) e) (omega arith) in
    rw (other, later) (omega arith)

pub own_place : (names : List (List ℕ)) (k : ℕ) (d : List ℕ) → are_distinct names ≡ true → k < length names → place_of names (get_or names k d) ≡ Some k
own_place names k d e h =
    let within : nat_lt k (length names) ≡ true = grind (arith, nat_tests) in
    rw (steps_to names k d e h, within) refl
