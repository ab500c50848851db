-- What a plan changes in a view, from the ids that it touches.
use Rattle.std.proofs.Common.{◌≡◌, ℕ, ℤ, Bool, true, false, cond, ◌||◌, List, [], ◌∷◌, ◌++◌, map, filter, Option, Some, None, refl, sym, ap, ◌∙◌}
use Rattle.std.specs.Prelude.{AllPairs, ◌<ℤ◌, is_some}
use Rattle.std.specs.List.{list_any, flat_map, All, AllByRecursion}
use Rattle.std.proofs.lemmas.List.Elements.{filter_agree, recursion_from_All}
use Rattle.std.specs.Ordering.{int_eq}
use Rattle.std.proofs.lemmas.Cmp.{lists_equiv}
use Rattle.rt_sql_statement.specs.ValueLaws.{same_value-equiv}
use Rattle.rt_table_row.specs.Columns.{Columns}
use Rattle.rt_table_row.specs.Rows.{TableRow, AreRising, row_at, values_of}
use Rattle.rt_table_row.specs.Conditions.{holds, picked}
use Rattle.rt_table_row.specs.Filters.{admits}
use Rattle.rt_table_row.specs.Views.{ViewChange, same_row, change_at, ids_of_both, delta, deltas}
use Rattle.rt_table_store.proofs.Order.{eq_from}
use Rattle.rt_table_store.proofs.Sorted.{kept, at_key, Rises, rises, at_key-filter, at_key-placed, rises-placed, rises-filter, same_lists}
use Rattle.rt_table_view.specs.declared.view.Watched.{Watched}
use Rattle.rt_table_view.specs.Watching.{view_of, shown, IsKept}
use Rattle.rt_table_view.specs.Preparing.{DifferAt}
use Rattle.rt_table_view.specs.Fates.{changes_at}

abbrev pub own : ℤ → ℤ
own id = id

-- ---- lists of ids

there_or : (b : Bool) (q x : ℤ) (l : Bool) (o : Option ℤ) → (b ≡ true → x ≡ q) → o ≡ cond l (Some q) None → cond b (Some x) o ≡ cond (b || l) (Some q) None
there_or true q x l o same later = ap (λ (z : ℤ). Some z) (same refl)
there_or false q x l o same later = later

pub at_itself : (ids : List ℤ) (q : ℤ) → at_key own ids q ≡ cond (list_any (int_eq q) ids) (Some q) None
at_itself [] q = refl
at_itself (x ∷ ids) q = there_or (int_eq q x) q x (list_any (int_eq q) ids) (at_key own ids q) (λ is. sym (eq_from q x is)) (at_itself ids q)

is_there : (b : Bool) (q : ℤ) → is_some (cond b (Some q) None) ≡ b
is_there true q = refl
is_there false q = refl

pub any_own : (ids : List ℤ) (q : ℤ) → list_any (int_eq q) ids ≡ is_some (at_key own ids q)
any_own ids q = sym (ap (λ (o : Option ℤ). is_some o) (at_itself ids q) ∙ is_there (list_any (int_eq q) ids) q)

-- ---- where nothing changes, nothing is listed

abbrev some_of : {Y : Type 0} → List Y → Bool
some_of [] = false
some_of (y ∷ ys) = true

nothing : {Y : Type 0} (ys : List Y) → some_of ys ≡ false → ys ≡ []
nothing [] is = refl
nothing (y ∷ ys) is = cc

module _ {Y : Type 0} (g : ℤ → List Y) where
  abbrev lists_some : ℤ → Bool
  lists_some q = some_of (g q)

  skip : (b : Bool) (x : ℤ) (ids : List ℤ) → lists_some x ≡ b → flat_map g ids ≡ flat_map g (filter lists_some ids) → flat_map g (x ∷ ids) ≡ flat_map g (cond b (x ∷ filter lists_some ids) (filter lists_some ids))
  skip true x ids is later = ap (λ ys. g x ++ ys) later
  skip false x ids is later = ap (λ ys. ys ++ flat_map g ids) (nothing (g x) is) ∙ later

  skipped : (ids : List ℤ) → flat_map g ids ≡ flat_map g (filter lists_some ids)
  skipped [] = refl
  skipped (x ∷ ids) = skip (lists_some x) x ids refl (skipped ids)

  none_kept : (b : Bool) (q : ℤ) → lists_some q ≡ false → kept lists_some (cond b (Some q) None) ≡ None
  none_kept true q is = rw is
  none_kept false q is = refl

  agree_at : (xs ys : List ℤ) (q : ℤ) (b : Bool) → lists_some q ≡ b → (lists_some q ≡ true → list_any (int_eq q) xs ≡ list_any (int_eq q) ys) → kept lists_some (at_key own xs q) ≡ kept lists_some (at_key own ys q)
  agree_at xs ys q true is agree = ap (kept lists_some) (at_itself xs q ∙ ap (λ (b : Bool). cond b (Some q) None) (agree is) ∙ sym (at_itself ys q))
  agree_at xs ys q false is agree =
      ap (kept lists_some) (at_itself xs q) ∙ none_kept (list_any (int_eq q) xs) q is ∙ sym (ap (kept lists_some) (at_itself ys q) ∙ none_kept (list_any (int_eq q) ys) q is)

  -- two rising lists that differ only where nothing is listed
  same_listed : (xs ys : List ℤ) → Rises own xs → Rises own ys → ((q : ℤ) → lists_some q ≡ true → list_any (int_eq q) xs ≡ list_any (int_eq q) ys) → flat_map g xs ≡ flat_map g ys
  same_listed xs ys xrise yrise agree =
      skipped xs
      ∙ ap (flat_map g) (same_lists own (filter lists_some xs) (filter lists_some ys) (rises-filter own lists_some xs xrise) (rises-filter own lists_some ys yrise)
      (λ q. at_key-filter own lists_some xs xrise q ∙ agree_at xs ys q (lists_some q) refl (agree q) ∙ sym (at_key-filter own lists_some ys yrise q)))
      ∙ sym (skipped ys)

-- ---- the ids of both

above_map : (q : ℤ) (rows : List TableRow) → AllByRecursion (λ r. q <ℤ r.id) rows → AllByRecursion (λ z. q <ℤ z) (map (λ (r : TableRow). r.id) rows)
above_map q [] above = tt
above_map q (r ∷ rows) above = (above.0, above_map q rows above.1)

pub rises-ids : (rows : List TableRow) → Rises (λ r. r.id) rows → Rises own (map (λ (r : TableRow). r.id) rows)
rises-ids [] rise = tt
rises-ids (r ∷ rows) rise = (above_map r.id rows rise.0, rises-ids rows rise.1)

pub rises-both : (before after : List TableRow) → Rises (λ r. r.id) after → Rises own (ids_of_both before after)
rises-both [] after rise = rises-ids after rise
rises-both (r ∷ before) after rise = rises-placed own (ids_of_both before after) r.id (rises-both before after rise)

in_first : (b : Bool) (r : TableRow) (o : Option ℤ) (p : Option TableRow) → is_some o ≡ is_some p → is_some (cond b (Some r.id) o) ≡ is_some (cond b (Some r) p)
in_first true r o p same = refl
in_first false r o p same = same

in_ids : (rows : List TableRow) (q : ℤ) → is_some (at_key own (map (λ (r : TableRow). r.id) rows) q) ≡ is_some (row_at rows q)
in_ids [] q = refl
in_ids (r ∷ rows) q = in_first (int_eq q r.id) r _ _ (in_ids rows q)

in_more : (b : Bool) (r : TableRow) (o : Option ℤ) (p a : Option TableRow) → is_some o ≡ (is_some p || is_some a) → is_some (cond b (Some r.id) o) ≡ (is_some (cond b (Some r) p) || is_some a)
in_more true r o p a same = refl
in_more false r o p a same = same

pub in_both : (before after : List TableRow) (q : ℤ) → is_some (at_key own (ids_of_both before after) q) ≡ (is_some (row_at before q) || is_some (row_at after q))
in_both [] after q = in_ids after q
in_both (r ∷ before) after q =
    ap (λ (o : Option ℤ). is_some o) (at_key-placed own (ids_of_both before after) r.id q)
    ∙ in_more (int_eq q r.id) r (at_key own (ids_of_both before after) q) (row_at before q) (row_at after q) (in_both before after q)

-- ---- one view

values_same : (r : TableRow) → same_row r r ≡ true
values_same r = (lists_equiv same_value-equiv).refl (values_of r)

none_here : (view : List ℕ) (o : Option TableRow) → change_at view o o ≡ []
none_here view None = refl
none_here view (Some r) = rw (values_same r)

changed_there : (view : List ℕ) (b a : Option TableRow) → some_of (change_at view b a) ≡ true → (is_some b || is_some a) ≡ true
changed_there view None None some = cc
changed_there view None (Some r) some = refl
changed_there view (Some r) a some = refl

module _ (view : List ℕ) (before after : List TableRow) (touched : List ℤ) (differ : DifferAt touched before after) where
  abbrev changes : ℤ → List ViewChange
  changes q = change_at view (row_at before q) (row_at after q)

  must_touch : (q : ℤ) → some_of (changes q) ≡ true → (b : Bool) → list_any (int_eq q) touched ≡ b → b ≡ true
  must_touch q some true is = refl
  must_touch q some false is =
      let none : changes q ≡ [] = ap (λ (o : Option TableRow). change_at view (row_at before q) o) (differ q is) ∙ none_here view (row_at before q) in
      let clash : true ≡ false = sym some ∙ ap (λ (cs : List ViewChange). some_of cs) none in
      sym clash

  agree : (q : ℤ) → some_of (changes q) ≡ true → list_any (int_eq q) (ids_of_both before after) ≡ list_any (int_eq q) touched
  agree q some =
      any_own (ids_of_both before after) q ∙ in_both before after q ∙ changed_there view (row_at before q) (row_at after q) some
      ∙ sym (must_touch q some (list_any (int_eq q) touched) refl)

  pub delta_touched : Rises (λ r. r.id) after → Rises own touched → delta view before after ≡ flat_map changes touched
  delta_touched rise touched_rise = same_listed changes (ids_of_both before after) touched (rises-both before after rise) touched_rise agree

-- ---- all views

shown_is : (p : TableRow → Bool) (o : Option TableRow) → kept p o ≡ shown p o
shown_is p None = refl
shown_is p (Some r) = refl

picked_at : (columns : Columns) (rows : List TableRow) (w : Watched) → Rises (λ r. r.id) rows → IsKept columns rows w → (now : List TableRow) → Rises (λ r. r.id) now → (q : ℤ)
    → row_at (picked columns w.filter.cond now) q ≡ shown (admits w.filter) (row_at now q)
picked_at columns rows w rise is now now_rise q =
    ap (λ (rs : List TableRow). row_at rs q) (sym (filter_agree (admits w.filter) (holds columns w.filter.cond) is.filter_is.same now))
    ∙ at_key-filter (λ r. r.id) (admits w.filter) now now_rise q ∙ shown_is (admits w.filter) (row_at now q)

flat_map_same : {X Y : Type 0} (f g : X → List Y) → ((x : X) → f x ≡ g x) → (xs : List X) → flat_map f xs ≡ flat_map g xs
flat_map_same f g same [] = refl
flat_map_same f g same (x ∷ xs) = ap (λ ys. ys ++ flat_map f xs) (same x) ∙ ap (λ ys. g x ++ ys) (flat_map_same f g same xs)

module _ (columns : Columns) (before after : List TableRow) (touched : List ℤ) (then_at : ℤ → Option TableRow) (before_rise : AreRising before) (after_rise : AreRising after)
    (touched_rise : AllPairs ◌<ℤ◌ touched) (differ : DifferAt touched before after) (is_then : (q : ℤ) → row_at after q ≡ then_at q) where
  one_view : (w : Watched) → IsKept columns before w → flat_map (changes_at w before then_at) touched ≡ delta w.name (picked columns w.filter.cond before) (picked columns w.filter.cond after)
  one_view w is =
      let was : (q : ℤ) → row_at (picked columns w.filter.cond before) q ≡ shown (admits w.filter) (row_at before q) =
      picked_at columns before w (rises (λ r. r.id) before before_rise) is before (rises (λ r. r.id) before before_rise) in
      let now : (q : ℤ) → row_at (picked columns w.filter.cond after) q ≡ shown (admits w.filter) (row_at after q) =
      picked_at columns before w (rises (λ r. r.id) before before_rise) is after (rises (λ r. r.id) after after_rise) in
      let shown_differ : DifferAt touched (picked columns w.filter.cond before) (picked columns w.filter.cond after) =
      λ q none. now q ∙ ap (shown (admits w.filter)) (differ q none) ∙ sym (was q) in
      let picked_rise : Rises (λ r. r.id) (picked columns w.filter.cond after) = rises-filter (λ r. r.id) (holds columns w.filter.cond) after (rises (λ r. r.id) after after_rise) in
      flat_map_same (changes_at w before then_at) (λ q. change_at w.name (row_at (picked columns w.filter.cond before) q) (row_at (picked columns w.filter.cond after) q))
      (λ q. ap (λ (o : Option TableRow). change_at w.name o (shown (admits w.filter) (then_at q))) (sym (was q))
      ∙ ap (λ (o : Option TableRow). change_at w.name (row_at (picked columns w.filter.cond before) q) (shown (admits w.filter) o)) (sym (is_then q))
      ∙ ap (λ (o : Option TableRow). change_at w.name (row_at (picked columns w.filter.cond before) q) o) (sym (now q)))
      touched
      ∙ sym (delta_touched w.name (picked columns w.filter.cond before) (picked columns w.filter.cond after) touched shown_differ picked_rise (rises own touched touched_rise))

  each_view : (views : List Watched) → AllByRecursion (IsKept columns before) views
      → flat_map (λ w. flat_map (changes_at w before then_at) touched) views ≡ deltas columns (map view_of views) before after
  each_view [] are = refl
  each_view (w ∷ views) are =
      ap (λ (cs : List ViewChange). cs ++ flat_map (λ w. flat_map (changes_at w before then_at) touched) views) (one_view w are.0)
      ∙ ap (λ (cs : List ViewChange). delta w.name (picked columns w.filter.cond before) (picked columns w.filter.cond after) ++ cs) (each_view views are.1)

  pub deltas_staged : (views : List Watched) → All (IsKept columns before) views
      → flat_map (λ w. flat_map (changes_at w before then_at) touched) views ≡ deltas columns (map view_of views) before after
  deltas_staged views are = each_view views (recursion_from_All (IsKept columns before) views are)
