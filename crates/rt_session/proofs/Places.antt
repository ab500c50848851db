-- Tables in a list, no two of one name: where one stands, and what an edit at that place comes to.
use Rattle.std.proofs.Common.{◌≡◌, ◌∙◌, ℕ, zero, suc, ◌<◌, Bool, true, false, cond, not, ◌&&◌, ◌||◌, List, [], ◌∷◌, ◌++◌, map, filter, length, get_or, set, Some, None, refl, sym, ap, subst, arith}
use Rattle.std.specs.Prelude.{position, find, if◌then◌else◌, nat_lt}
use Rattle.std.specs.Str.{bytes_eq, str_to_ascii_lowercase}
use Rattle.std.specs.List.{list_any, remove, position_or_len, slice_get}
use Rattle.std.specs.Option.{option_map}
use Rattle.std.proofs.lemmas.Bool.{and_parts, or_parts}
use Rattle.std.proofs.lemmas.Grind.{common_steps}
use Rattle.std.proofs.lemmas.Slice.Eq.{bytes_eq-Decides}
use Rattle.std.proofs.lemmas.List.Folds.{find_at, list_any-append}
use Rattle.std.proofs.lemmas.List.Quantifiers.{position-Some}
use Rattle.std.proofs.lemmas.Option.{slice_get_read}
use Rattle.rt_sql_statement.specs.Name.{same_name}
use Rattle.rt_table_row.specs.Columns.{are_distinct, has_name}
use Rattle.rt_session.specs.Session.{NamedTable, is_named}

-- ---- names

same_lowercase : (a b : List ℕ) → same_name a b ≡ true → str_to_ascii_lowercase a ≡ str_to_ascii_lowercase b
same_lowercase a b same = (bytes_eq-Decides (str_to_ascii_lowercase a) (str_to_ascii_lowercase b)).0 same

pub same_self : (a : List ℕ) → same_name a a ≡ true
same_self a = (bytes_eq-Decides (str_to_ascii_lowercase a) (str_to_ascii_lowercase a)).1 refl

-- one name may be written for the other
same_left : (a b c : List ℕ) → same_name a b ≡ true → same_name a c ≡ same_name b c
same_left a b c same = ap (λ l. bytes_eq l (str_to_ascii_lowercase c)) (same_lowercase a b same)

same_right : (a b c : List ℕ) → same_name a b ≡ true → same_name c a ≡ same_name c b
same_right a b c same = ap (λ l. bytes_eq (str_to_ascii_lowercase c) l) (same_lowercase a b same)

turned : (a b : List ℕ) → same_name a b ≡ same_name b a
turned a b =
    elim (same_name a b) as (λ x. same_name a b ≡ x → x ≡ same_name b a) [
      | true ↦ λ h. sym (same_self b) ∙ sym (same_right a b b h)
      | false ↦ λ h. elim (same_name b a) as (λ y. same_name b a ≡ y → false ≡ y) [
        | true ↦ λ k. sym h ∙ same_right b a a k ∙ same_self a
        | false ↦ λ k. refl
      ] refl
    ] refl

-- ---- lists

denied : (a : Bool) → not a ≡ true → a ≡ false
denied true is = absurd (let none : ⊥ = cc in none)
denied false is = refl

pub find_mapped : {X Y : Type 0} (p : Y → Bool) (f : X → Y) (xs : List X) → find p (map f xs) ≡ option_map f (find (λ x. p (f x)) xs)
find_mapped p f [] = refl
find_mapped p f (x ∷ xs) =
    elim (p (f x)) as (λ b. cond b (Some (f x)) (find p (map f xs)) ≡ option_map f (cond b (Some x) (find (λ x. p (f x)) xs))) [
      | true ↦ refl
      | false ↦ find_mapped p f xs
    ]

pub any_mapped : {X Y : Type 0} (p : Y → Bool) (f : X → Y) (xs : List X) → list_any p (map f xs) ≡ list_any (λ x. p (f x)) xs
any_mapped p f [] = refl
any_mapped p f (x ∷ xs) = ap (λ (b : Bool). p (f x) || b) (any_mapped p f xs)

not_any : {X : Type 0} (p : X → Bool) (xs : List X) (at : ℕ) (d : X) → at < length xs → list_any p xs ≡ false → p (get_or xs at d) ≡ false
not_any p [] at d within none = absurd (omega arith)
not_any p (x ∷ xs) zero d within none = (or_parts _ _ none).0
not_any p (x ∷ xs) (suc at) d within none = not_any p xs at d (omega arith) (or_parts (p x) _ none).1

-- what stands at the first place is what is found
pub found_at : {X : Type 0} (p : X → Bool) (xs : List X) (at : ℕ) (x : X) → position p xs ≡ Some at → x ≡ get_or xs at x → find p xs ≡ Some x
found_at p xs at x is read =
    let place : position_or_len p xs ≡ at = grind (arith, common_steps) in
    find_at p xs ∙ ap (slice_get xs) place ∙ slice_get_read xs (length xs) at x refl ((position-Some p xs at x is).0) read

past_end : {X : Type 0} (xs : List X) (at : ℕ) → nat_lt at (length xs) ≡ false → slice_get xs at ≡ None
past_end [] at past = refl
past_end (x ∷ xs) zero past = grind arith
past_end (x ∷ xs) (suc at) past = past_end xs at (grind arith)

no_place : (b : Bool) (n : ℕ) → cond b (Some n) None ≡ None → b ≡ false
no_place true n none = cc
no_place false n none = refl

pub not_found : {X : Type 0} (p : X → Bool) (xs : List X) → position p xs ≡ None → find p xs ≡ None
not_found p xs none = find_at p xs ∙ past_end xs (position_or_len p xs) (no_place _ _ none)

-- ---- tables of distinct names

abbrev pub Distinct : List NamedTable → Type 0
Distinct tables = are_distinct (map (λ t. t.name) tables) ≡ true

-- the table of that name is changed
abbrev pub replaced_by : List ℕ → (NamedTable → NamedTable) → NamedTable → NamedTable
replaced_by name change t = if is_named name t then change t else t

first_apart : (t : NamedTable) (ts : List NamedTable) → Distinct (t ∷ ts) → list_any (is_named t.name) ts ≡ false
first_apart t ts distinct = sym (any_mapped (same_name t.name) (λ u. u.name) ts) ∙ denied _ (and_parts _ _ distinct).0

later_distinct : (t : NamedTable) (ts : List NamedTable) → Distinct (t ∷ ts) → Distinct ts
later_distinct t ts distinct = (and_parts (not (has_name (map (λ u. u.name) ts) t.name)) _ distinct).1

-- no other table has the name of one
others : (name : List ℕ) (t : NamedTable) (ts : List NamedTable) → Distinct (t ∷ ts) → is_named name t ≡ true → list_any (is_named name) ts ≡ false
others name t ts distinct is =
    ap (λ l. list_any (λ u. bytes_eq l (str_to_ascii_lowercase u.name)) ts) (same_lowercase name t.name is) ∙ first_apart t ts distinct

-- the first isn't the one that stands later
first_other : (name : List ℕ) (t : NamedTable) (ts : List NamedTable) (at : ℕ) (u : NamedTable) → Distinct (t ∷ ts) → at < length ts → u ≡ get_or ts at u → is_named name u ≡ true
    → is_named name t ≡ false
first_other name t ts at u distinct within read is =
    let apart : same_name t.name u.name ≡ false = ap (λ (v : NamedTable). same_name t.name v.name) read ∙ not_any (is_named t.name) ts at u within (first_apart t ts distinct) in
    same_left name u.name t.name is ∙ turned u.name t.name ∙ apart

none_replaced : (name : List ℕ) (change : NamedTable → NamedTable) (ts : List NamedTable) → list_any (is_named name) ts ≡ false → map (replaced_by name change) ts ≡ ts
none_replaced name change [] none = refl
none_replaced name change (t ∷ ts) none =
    let here : is_named name t ≡ false = (or_parts _ _ none).0 in
    let later = none_replaced name change ts (or_parts (is_named name t) _ none).1 in
    rw (here, later)

-- the changed table in the place of the one there
pub replaced : (name : List ℕ) (change : NamedTable → NamedTable) (ts : List NamedTable) (at : ℕ) (t : NamedTable) → at < length ts → t ≡ get_or ts at t → is_named name t ≡ true → Distinct ts
    → set ts at (change t) ≡ map (replaced_by name change) ts
replaced name change [] at t within read is distinct = absurd (omega arith)
replaced name change (x ∷ xs) zero t within read is distinct =
    let here : is_named name x ≡ true = subst (λ (v : NamedTable). is_named name v ≡ true) read is in
    rw (here, none_replaced name change xs (others name x xs distinct here)) (ap (λ (v : NamedTable). change v ∷ xs) read)
replaced name change (x ∷ xs) (suc at) t within read is distinct =
    rw (first_other name x xs at t distinct (omega arith) read is) (ap (λ (vs : List NamedTable). x ∷ vs) (replaced name change xs at t (omega arith) read is (later_distinct x xs distinct)))

none_left_out : (name : List ℕ) (ts : List NamedTable) → list_any (is_named name) ts ≡ false → filter (λ t. not (is_named name t)) ts ≡ ts
none_left_out name [] none = refl
none_left_out name (t ∷ ts) none =
    let here : is_named name t ≡ false = (or_parts _ _ none).0 in
    let later = none_left_out name ts (or_parts (is_named name t) _ none).1 in
    rw (here, later)

-- the table of that name goes
pub removed : (name : List ℕ) (ts : List NamedTable) (at : ℕ) (t : NamedTable) → at < length ts → t ≡ get_or ts at t → is_named name t ≡ true → Distinct ts
    → remove ts at ≡ filter (λ u. not (is_named name u)) ts
removed name [] at t within read is distinct = absurd (omega arith)
removed name (x ∷ xs) zero t within read is distinct =
    let here : is_named name x ≡ true = subst (λ (v : NamedTable). is_named name v ≡ true) read is in
    rw (here, none_left_out name xs (others name x xs distinct here)) refl
removed name (x ∷ xs) (suc at) t within read is distinct =
    rw (first_other name x xs at t distinct (omega arith) read is) (ap (λ (vs : List NamedTable). x ∷ vs) (removed name xs at t (omega arith) read is (later_distinct x xs distinct)))

-- ---- names that stay distinct

filter_lacks : (name : List ℕ) (p : NamedTable → Bool) (ts : List NamedTable) → list_any (is_named name) ts ≡ false → list_any (is_named name) (filter p ts) ≡ false
filter_lacks name p [] none = refl
filter_lacks name p (t ∷ ts) none =
    let later = filter_lacks name p ts (or_parts (is_named name t) _ none).1 in
    elim (p t) as (λ b. list_any (is_named name) (cond b (t ∷ filter p ts) (filter p ts)) ≡ false) [
      | true ↦ rw ((or_parts (is_named name t) _ none).0) later
      | false ↦ later
    ]

pub distinct-filter : (p : NamedTable → Bool) (ts : List NamedTable) → Distinct ts → Distinct (filter p ts)
distinct-filter p [] distinct = refl
distinct-filter p (t ∷ ts) distinct =
    let later = distinct-filter p ts (later_distinct t ts distinct) in
    let apart : has_name (map (λ u. u.name) (filter p ts)) t.name ≡ false =
    any_mapped (same_name t.name) (λ u. u.name) (filter p ts) ∙ filter_lacks t.name p ts (first_apart t ts distinct) in
    elim (p t) as (λ b. Distinct (cond b (t ∷ filter p ts) (filter p ts))) [
      | true ↦ rw apart later
      | false ↦ later
    ]

-- a name that no other has
pub distinct-one_more : (names : List (List ℕ)) (name : List ℕ) → are_distinct names ≡ true → list_any (same_name name) names ≡ false → are_distinct (names ++ name ∷ []) ≡ true
distinct-one_more [] name distinct new = refl
distinct-one_more (x ∷ xs) name distinct new =
    let later = distinct-one_more xs name (and_parts (not (has_name xs x)) _ distinct).1 (or_parts (same_name name x) _ new).1 in
    let other : same_name x name ≡ false = turned x name ∙ (or_parts _ _ new).0 in
    let before : has_name xs x ≡ false = denied _ (and_parts _ _ distinct).0 in
    let apart : has_name (xs ++ name ∷ []) x ≡ false = list_any-append (same_name x) xs (name ∷ []) ∙ rw (before, other) refl in
    rw (apart, later)
