-- The changes of a view turn the rows that it showed into the rows that it shows.
use Rattle.std.proofs.Common.{◌≡◌, ℕ, ℤ, Bool, true, false, cond, not, ◌||◌, List, [], ◌∷◌, ◌++◌, map, Option, Some, None, refl, sym, ap, subst, ◌∙◌}
use Rattle.std.specs.Prelude.{◌<ℤ◌, is_some}
use Rattle.std.specs.List.{list_any, flat_map, AllByRecursion}
use Rattle.std.specs.Ordering.{int_eq}
use Rattle.std.specs.Option.{option_map}
use Rattle.std.proofs.lemmas.Cmp.{int_eq_equiv}
use Rattle.std.proofs.lemmas.Slice.Eq.{slice_eq-Decides}
use Rattle.rt_sql_statement.specs.declared.value.Value.{Value}
use Rattle.rt_sql_statement.specs.ValueLaws.{same_value-Decides}
use Rattle.rt_table_row.specs.Rows.{TableRow, row_at, values_of}
use Rattle.rt_table_row.specs.Views.{ViewChange, same_row, left, came, change_at, ids_of_both, delta}
use Rattle.rt_table_store.proofs.Order.{eq_same, eq_from, eq_above}
use Rattle.rt_table_store.proofs.Sorted.{at_key, Rises, rises, rises-filter, at_key-placed, at_key-taken, rises-placed, rises-taken, same_lists}
use Rattle.rt_table_row.specs.Conditions.{holds, picked}
use Rattle.rt_table_row.specs.Edits.{outcome}
use Rattle.rt_laws.specs.Replaying.{printed_id, after_change, replayed, ChangesReplay}
use Rattle.rt_table_view.proofs.Fates.{rising_outcome}
use Rattle.rt_table_view.proofs.Deltas.{own, any_own, in_both, rises-both}
use Rattle.rt_table_view.proofs.Looking.{find_mapped}

abbrev Shown : Type 0
Shown = List (List Value)

abbrev at : Shown → ℤ → Option (List Value)
at shown q = at_key printed_id shown q

-- ---- the rows of an id

id_here : (b : Bool) (q : ℤ) (r s : TableRow) (o : Option TableRow) → (b ≡ true → q ≡ r.id) → cond b (Some r) o ≡ Some s → (o ≡ Some s → s.id ≡ q) → s.id ≡ q
id_here true q r s o same found later = let e : r ≡ s = cc in ap (λ (t : TableRow). t.id) (sym e) ∙ sym (same refl)
id_here false q r s o same found later = later found

has_its_id : (rows : List TableRow) (q : ℤ) (s : TableRow) → row_at rows q ≡ Some s → s.id ≡ q
has_its_id [] q s found = cc
has_its_id (r ∷ rows) q s found = id_here (int_eq q r.id) q r s (row_at rows q) (eq_from q r.id) found (has_its_id rows q s)

same_values : (old new : TableRow) → same_row old new ≡ true → values_of old ≡ values_of new
same_values old new same = (slice_eq-Decides same_value-Decides (values_of old) (values_of new) (same_row old new) refl).0 same

-- ---- one change

module _ (view : List ℕ) (shown : Shown) (x q : ℤ) where
  stays_there : (o : Option (List Value)) (b : Bool) → int_eq q x ≡ b → at shown x ≡ o → at shown q ≡ cond b o (at shown q)
  stays_there o true same was = subst (λ (z : ℤ). at shown z ≡ o) (sym (eq_from q x same)) was
  stays_there o false other was = refl

  went : (b : Bool) (o : Option (List Value)) → cond (not b) o None ≡ cond b None o
  went true o = refl
  went false o = refl

  after_left : (old : TableRow) → old.id ≡ x → at (after_change shown (left view old)) q ≡ cond (int_eq q x) None (at shown q)
  after_left old is =
      at_key-taken printed_id shown old.id q
      ∙ ap (λ (z : ℤ). cond (not (int_eq z q)) (at shown q) None) is
      ∙ ap (λ (b : Bool). cond (not b) (at shown q) None) (int_eq_equiv.symm x q)
      ∙ went (int_eq q x) (at shown q)

after_came : (view : List ℕ) (shown : Shown) (x q : ℤ) (new : TableRow) → new.id ≡ x → at (after_change shown (came view new)) q ≡ cond (int_eq q x) (Some (values_of new)) (at shown q)
after_came view shown x q new is =
    at_key-placed printed_id shown (values_of new) q ∙ ap (λ (z : ℤ). cond (int_eq q z) (Some (values_of new)) (at shown q)) is

over : (b : Bool) (o p r : Option (List Value)) → cond b o (cond b p r) ≡ cond b o r
over true o p r = refl
over false o p r = refl

replaced : (view : List ℕ) (shown : Shown) (x q : ℤ) (old new : TableRow) → old.id ≡ x → new.id ≡ x → (b : Bool) → same_row old new ≡ b → at shown x ≡ Some (values_of old)
    → at (replayed shown (cond b [] (left view old ∷ came view new ∷ []))) q ≡ cond (int_eq q x) (Some (values_of new)) (at shown q)
replaced view shown x q old new old_is new_is true same was =
    stays_there view shown x q (Some (values_of new)) (int_eq q x) refl (was ∙ ap (λ (vs : List Value). Some vs) (same_values old new same))
replaced view shown x q old new old_is new_is false other was =
    after_came view (after_change shown (left view old)) x q new new_is
    ∙ ap (λ (o : Option (List Value)). cond (int_eq q x) (Some (values_of new)) o) (after_left view shown x q old old_is)
    ∙ over (int_eq q x) (Some (values_of new)) None (at shown q)

-- after the changes at an id the row that is then there is shown at it, and the others are as before
one_turn : (view : List ℕ) (shown : Shown) (x q : ℤ) (b a : Option TableRow) → ((s : TableRow) → b ≡ Some s → s.id ≡ x) → ((s : TableRow) → a ≡ Some s → s.id ≡ x) → at shown x ≡ option_map values_of b
    → at (replayed shown (change_at view b a)) q ≡ cond (int_eq q x) (option_map values_of a) (at shown q)
one_turn view shown x q None None b_id a_id was = stays_there view shown x q None (int_eq q x) refl was
one_turn view shown x q (Some old) None b_id a_id was = after_left view shown x q old (b_id old refl)
one_turn view shown x q None (Some new) b_id a_id was = after_came view shown x q new (a_id new refl)
one_turn view shown x q (Some old) (Some new) b_id a_id was = replaced view shown x q old new (b_id old refl) (a_id new refl) (same_row old new) refl was

-- ---- rising

rises_left : (view : List ℕ) (shown : Shown) (old : TableRow) → Rises printed_id shown → Rises printed_id (after_change shown (left view old))
rises_left view shown old rise = rises-taken printed_id shown old.id rise

rises_came : (view : List ℕ) (shown : Shown) (new : TableRow) → Rises printed_id shown → Rises printed_id (after_change shown (came view new))
rises_came view shown new rise = rises-placed printed_id shown (values_of new) rise

rises_choice : (view : List ℕ) (shown : Shown) (old new : TableRow) (b : Bool) → Rises printed_id shown → Rises printed_id (replayed shown (cond b [] (left view old ∷ came view new ∷ [])))
rises_choice view shown old new true rise = rise
rises_choice view shown old new false rise = rises_came view (after_change shown (left view old)) new (rises_left view shown old rise)

rises_turn : (view : List ℕ) (shown : Shown) (b a : Option TableRow) → Rises printed_id shown → Rises printed_id (replayed shown (change_at view b a))
rises_turn view shown None None rise = rise
rises_turn view shown (Some old) None rise = rises_left view shown old rise
rises_turn view shown None (Some new) rise = rises_came view shown new rise
rises_turn view shown (Some old) (Some new) rise = rises_choice view shown old new (same_row old new) rise

replayed-append : (shown : Shown) (changes more : List ViewChange) → replayed shown (changes ++ more) ≡ replayed (replayed shown changes) more
replayed-append shown [] more = refl
replayed-append shown (change ∷ changes) more = replayed-append (after_change shown change) changes more

-- ---- all ids

past_one : (x z q : ℤ) (later b : Bool) → int_eq q z ≡ b → x <ℤ z → (b || later) ≡ true → (later ≡ true → int_eq q x ≡ false) → int_eq q x ≡ false
past_one x z q later true same below there rest = subst (λ (y : ℤ). int_eq y x ≡ false) (sym (eq_from q z same)) (eq_above z x below)
past_one x z q later false other below there rest = rest there

past_first : (x : ℤ) (ids : List ℤ) (q : ℤ) → AllByRecursion (λ z. x <ℤ z) ids → list_any (int_eq q) ids ≡ true → int_eq q x ≡ false
past_first x [] q above there = cc
past_first x (z ∷ ids) q above there = past_one x z q (list_any (int_eq q) ids) (int_eq q z) refl above.0 there (past_first x ids q above.1)

join : (first later : Bool) (a now was : Option (List Value)) → now ≡ cond first a was → (later ≡ true → first ≡ false) → cond later a now ≡ cond (first || later) a was
join true true a now was is apart = refl
join true false a now was is apart = is
join false true a now was is apart = refl
join false false a now was is apart = is

or_true : (b : Bool) → (b || true) ≡ true
or_true true = refl
or_true false = refl

module _ (view : List ℕ) (before after : List TableRow) where
  here_after : (b : Bool) (q x : ℤ) (o : Option (List Value)) → (b ≡ true → q ≡ x) → cond b (option_map values_of (row_at after x)) o ≡ cond b (option_map values_of (row_at after q)) o
  here_after true q x o same = ap (λ (z : ℤ). option_map values_of (row_at after z)) (sym (same refl))
  here_after false q x o same = refl

  abbrev turn : ℤ → List ViewChange
  turn id = change_at view (row_at before id) (row_at after id)

  all_turns : (ids : List ℤ) (shown : Shown) → Rises own ids → ((q : ℤ) → list_any (int_eq q) ids ≡ true → at shown q ≡ option_map values_of (row_at before q)) → (q : ℤ)
      → at (replayed shown (flat_map turn ids)) q ≡ cond (list_any (int_eq q) ids) (option_map values_of (row_at after q)) (at shown q)
  all_turns [] shown rise was q = refl
  all_turns (x ∷ ids) shown rise was q =
      let here : at shown x ≡ option_map values_of (row_at before x) = was x (ap (λ (b : Bool). b || list_any (int_eq x) ids) (eq_same x)) in
      let turned : (z : ℤ) → at (replayed shown (turn x)) z ≡ cond (int_eq z x) (option_map values_of (row_at after x)) (at shown z) =
      λ z. one_turn view shown x z (row_at before x) (row_at after x) (has_its_id before x) (has_its_id after x) here in
      let later : (z : ℤ) → list_any (int_eq z) ids ≡ true → at (replayed shown (turn x)) z ≡ option_map values_of (row_at before z) =
      λ z there. turned z ∙ ap (λ (b : Bool). cond b (option_map values_of (row_at after x)) (at shown z)) (past_first x ids z rise.0 there)
      ∙ was z (ap (λ (b : Bool). int_eq z x || b) there ∙ or_true (int_eq z x)) in
      ap (λ (s : Shown). at s q) (replayed-append shown (turn x) (flat_map turn ids))
      ∙ all_turns ids (replayed shown (turn x)) rise.1 later q
      ∙ join (int_eq q x) (list_any (int_eq q) ids) (option_map values_of (row_at after q)) (at (replayed shown (turn x)) q) (at shown q) (turned q ∙ here_after (int_eq q x) q x (at shown q) (eq_from q x)) (past_first x ids q rise.0)

  rises_turns : (ids : List ℤ) (shown : Shown) → Rises printed_id shown → Rises printed_id (replayed shown (flat_map turn ids))
  rises_turns [] shown rise = rise
  rises_turns (x ∷ ids) shown rise =
      subst (λ (s : Shown). Rises printed_id s) (sym (replayed-append shown (turn x) (flat_map turn ids)))
      (rises_turns ids (replayed shown (turn x)) (rises_turn view shown (row_at before x) (row_at after x) rise))

-- ---- the rows that are shown

at_values : (rows : List TableRow) (q : ℤ) → at (map values_of rows) q ≡ option_map values_of (row_at rows q)
at_values rows q = find_mapped (λ (vs : List Value). int_eq q (printed_id vs)) values_of rows

above_values : (q : ℤ) (rows : List TableRow) → AllByRecursion (λ r. q <ℤ r.id) rows → AllByRecursion (λ vs. q <ℤ printed_id vs) (map values_of rows)
above_values q [] above = tt
above_values q (r ∷ rows) above = (above.0, above_values q rows above.1)

rises_values : (rows : List TableRow) → Rises (λ r. r.id) rows → Rises printed_id (map values_of rows)
rises_values [] rise = tt
rises_values (r ∷ rows) rise = (above_values r.id rows rise.0, rises_values rows rise.1)

shown_after : (there : Bool) (b a : Option TableRow) (o p : Option (List Value)) → o ≡ option_map values_of b → p ≡ option_map values_of a → there ≡ (is_some b || is_some a)
    → cond there (option_map values_of a) o ≡ p
shown_after true b a o p was now all = sym now
shown_after false None None o p was now all = was ∙ sym now
shown_after false None (Some r) o p was now all = cc
shown_after false (Some r) a o p was now all = cc

replay : (view : List ℕ) (before after : List TableRow) → Rises (λ r. r.id) before → Rises (λ r. r.id) after → replayed (map values_of before) (delta view before after) ≡ map values_of after
replay view before after before_rise after_rise =
    same_lists printed_id (replayed (map values_of before) (delta view before after)) (map values_of after)
    (rises_turns view before after (ids_of_both before after) (map values_of before) (rises_values before before_rise)) (rises_values after after_rise)
    (λ q. all_turns view before after (ids_of_both before after) (map values_of before) (rises-both before after after_rise) (λ z there. at_values before z) q
    ∙ shown_after (list_any (int_eq q) (ids_of_both before after)) (row_at before q) (row_at after q) (at (map values_of before) q) (at (map values_of after) q) (at_values before q) (at_values after q)
    (any_own (ids_of_both before after) q ∙ in_both before after q))

pub changes_replay : ChangesReplay
changes_replay columns view rows steps rise =
    replay view.name (picked columns view.cond rows) (picked columns view.cond (outcome rows steps))
    (rises-filter (λ r. r.id) (holds columns view.cond) rows (rises (λ r. r.id) rows rise))
    (rises-filter (λ r. r.id) (holds columns view.cond) (outcome rows steps) (rises (λ r. r.id) (outcome rows steps) (rising_outcome rows steps rise)))
