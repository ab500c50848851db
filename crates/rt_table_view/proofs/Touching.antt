-- What the ids that steps touch shift in a view.
use Rattle.std.proofs.Common.{◌≡◌, ℕ, ◌+◌, ◌<◌, set, take, length, get_or, append-nil, inl, inr, subst, ℤ, Bool, true, false, ◌||◌, List, [], ◌∷◌, ◌++◌, Option, Some, None, refl, sym, ap, ◌∙◌}
use Rattle.std.specs.Prelude.{is_some, if◌then◌else◌}
use Rattle.std.specs.List.{AllByRecursion, list_any, flat_map}
use Rattle.std.specs.Ordering.{int_eq}
use Rattle.std.proofs.lemmas.Grind.{flat_map-append}
use Rattle.std.proofs.lemmas.Bool.{cases_eq}
use Rattle.std.proofs.lemmas.List.{take_more, get_or-set_same, get_or-set_other}
use Rattle.std.proofs.lemmas.List.Elements.{All-from_recursion}
use Rattle.std.proofs.lemmas.List.Folds.{list_any-append}
use Rattle.rt_table_row.specs.Rows.{TableRow, row_at}
use Rattle.rt_table_row.specs.Filters.{admits}
use Rattle.rt_table_store.proofs.Order.{eq_from}
use Rattle.rt_table_view.specs.declared.view.Shift.{Shift}
use Rattle.rt_table_view.specs.declared.view.Watched.{Watched}
use Rattle.rt_table_view.specs.Fates.{shift, shifts_at}
use Rattle.rt_table_view.specs.Watching.{is_picked, shown, shifted_ids, AreShifts}
use Rattle.rt_table_view.specs.Preparing.{DifferAt}

some_picked : (b : Bool) (r : TableRow) → is_some (if b then Some r else None) ≡ b
some_picked true r = refl
some_picked false r = refl

shown_picked : (p : TableRow → Bool) (o : Option TableRow) → is_some (shown p o) ≡ is_picked p o
shown_picked p None = refl
shown_picked p (Some r) = some_picked (p r) r

-- a view that has the ids of the rows that it shows needs no look at them

chosen : (b : Bool) (r : TableRow) → b ≡ true → (if b then Some r else None) ≡ Some r
chosen true r is = refl
chosen false r is = cc

not_chosen : (b : Bool) (r : TableRow) → b ≡ false → (if b then Some r else None) ≡ None
not_chosen true r is = cc
not_chosen false r is = refl

pub shown_in : (p : TableRow → Bool) (o : Option TableRow) → is_picked p o ≡ true → shown p o ≡ o
shown_in p None there = refl
shown_in p (Some r) there = chosen (p r) r there

pub shown_out : (p : TableRow → Bool) (o : Option TableRow) → is_picked p o ≡ false → shown p o ≡ None
shown_out p None none = refl
shown_out p (Some r) none = not_chosen (p r) r none

all_of_both : {X : Type 0} (P : X → Type 0) (xs ys : List X) → AllByRecursion P xs → AllByRecursion P ys → AllByRecursion P (xs ++ ys)
all_of_both P [] ys of more = more
all_of_both P (x ∷ xs) ys of more = (of.0, all_of_both P xs ys of.1 more)

ids_of_both : (ss ts : List Shift) → shifted_ids (ss ++ ts) ≡ shifted_ids ss ++ shifted_ids ts
ids_of_both [] ts = refl
ids_of_both (s ∷ ss) ts = ap (λ (ids : List ℤ). s.id ∷ ids) (ids_of_both ss ts)

neither : (a b : Bool) → (a || b) ≡ false → (a ≡ false) × (b ≡ false)
neither true b none = cc
neither false b none = (refl, none)

none_shifted : (q id : ℤ) (was_in is_in : Bool) → int_eq q id ≡ true → list_any (int_eq q) (shifted_ids (shift id was_in is_in)) ≡ false → is_in ≡ was_in
none_shifted q id true true same none = refl
none_shifted q id true false same none = absurd (cc)
none_shifted q id false true same none = absurd (cc)
none_shifted q id false false same none = refl

module _ (w : Watched) (before after : List TableRow) (then_at : ℤ → Option TableRow) (is_then : (q : ℤ) → row_at after q ≡ then_at q) where
  abbrev p : TableRow → Bool
  p = admits w.filter

  abbrev shifts : ℤ → List Shift
  shifts = shifts_at w before then_at

  abbrev IsIn : Shift → Type 0
  IsIn s = s.is_in ≡ is_picked p (row_at after s.id)

  is_at : (id : ℤ) → is_some (shown p (then_at id)) ≡ is_picked p (row_at after id)
  is_at id = shown_picked p (then_at id) ∙ ap (is_picked p) (sym (is_then id))

  one_in : (id : ℤ) (was_in is_in : Bool) → is_in ≡ is_picked p (row_at after id) → AllByRecursion IsIn (shift id was_in is_in)
  one_in id true true is = tt
  one_in id true false is = (is, tt)
  one_in id false true is = (is, tt)
  one_in id false false is = tt

  each_in : (ids : List ℤ) → AllByRecursion IsIn (flat_map shifts ids)
  each_in [] = tt
  each_in (id ∷ ids) = all_of_both IsIn (shifts id) (flat_map shifts ids) (one_in id _ _ (is_at id)) (each_in ids)

  stays_at : (id : ℤ) (q : ℤ) (b later : Bool) → int_eq q id ≡ b → (b || later) ≡ true
      → list_any (int_eq q) (shifted_ids (shifts id)) ≡ false
      → (later ≡ true → is_picked p (row_at after q) ≡ is_picked p (row_at before q))
      → is_picked p (row_at after q) ≡ is_picked p (row_at before q)
  stays_at id q true later same there none rest =
      let id_is : q ≡ id = eq_from q id same in
      ap (λ (z : ℤ). is_picked p (row_at after z)) id_is ∙ sym (is_at id) ∙ none_shifted q id _ _ same none
      ∙ shown_picked p (row_at before id) ∙ ap (λ (z : ℤ). is_picked p (row_at before z)) (sym id_is)
  stays_at id q false later same there none rest = rest there

  stays : (ids : List ℤ) (q : ℤ) → list_any (int_eq q) ids ≡ true → list_any (int_eq q) (shifted_ids (flat_map shifts ids)) ≡ false
      → is_picked p (row_at after q) ≡ is_picked p (row_at before q)
  stays [] q there none = cc
  stays (id ∷ ids) q there none =
      let first = shifted_ids (shifts id) in
      let more = shifted_ids (flat_map shifts ids) in
      let both = neither (list_any (int_eq q) first) (list_any (int_eq q) more)
      (sym (list_any-append (int_eq q) first more) ∙ ap (list_any (int_eq q)) (sym (ids_of_both (shifts id) (flat_map shifts ids))) ∙ none) in
      stays_at id q (int_eq q id) (list_any (int_eq q) ids) refl there both.0 (λ later. stays ids q later both.1)

  others_stay : (ids : List ℤ) → DifferAt ids before after → (q : ℤ) (b : Bool) → list_any (int_eq q) ids ≡ b
      → list_any (int_eq q) (shifted_ids (flat_map shifts ids)) ≡ false → is_picked p (row_at after q) ≡ is_picked p (row_at before q)
  others_stay ids differ q true there none = stays ids q there none
  others_stay ids differ q false there none = ap (is_picked p) (differ q there)

  -- what the touched ids shift in the view
  pub shifts_are : (ids : List ℤ) → DifferAt ids before after → AreShifts p before after (flat_map shifts ids)
  shifts_are ids differ = record {
    are_in = All-from_recursion IsIn (flat_map shifts ids) (each_in ids);
    others = λ q none. others_stay ids differ q (list_any (int_eq q) ids) refl none;
  }

-- ---- one more of a list

pub flat_map_more : {X Y : Type 0} (f : X → List Y) (xs : List X) (i : ℕ) (x : X) → i < length xs → x ≡ get_or xs i x → flat_map f (take (i + 1) xs) ≡ flat_map f (take i xs) ++ f x
flat_map_more f xs i x within here =
    ap (flat_map f) (take_more xs i x within) ∙ flat_map-append f (take i xs) (get_or xs i x ∷ []) ∙ ap (λ ys. flat_map f (take i xs) ++ ys) (append-nil (f (get_or xs i x)) ∙ ap f (sym here))

-- one that is set in a list: what holds of it and of the others holds of each
pub set_each : {X : Type 0} (P : ℕ → X → Type 0) (xs : List X) (i : ℕ) (y : X) → i < length xs → P i y → (k : ℕ) (d : X) → ((k ≡ i → ⊥) → P k (get_or xs k d)) → P k (get_or (set xs i y) k d)
set_each P xs i y within here k d other =
    elim (cases_eq k i) [
      | inl same ↦ subst (λ (n : ℕ). P n (get_or (set xs i y) n d)) (sym same) (subst (λ x. P i x) (sym (get_or-set_same xs i y d within)) here)
      | inr differs ↦ subst (λ x. P k x) (sym (get_or-set_other xs i k y d differs)) (other differs)
    ]
