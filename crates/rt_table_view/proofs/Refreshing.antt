-- Views that are brought up to date.
use Rattle.std.proofs.Common.{◌≡◌, ℕ, zero, suc, ◌<◌, ◌≤◌, ℤ, Bool, true, false, List, [], ◌∷◌, map, length, get_or, Option, Some, None, refl, sym, ap, subst, ◌∙◌, arith}
use Rattle.std.specs.Prelude.{if◌then◌else◌}
use Rattle.std.specs.List.{All, list_any, flat_map, AllByRecursion}
use Rattle.indexmap.specs.IndexSet.{spare}
use Rattle.std.specs.Ordering.{int_eq}
use Rattle.std.proofs.lemmas.List.Elements.{All-map, All-weaker, All-from_recursion, recursion_from_All}
use Rattle.rt_table_row.specs.Columns.{Columns}
use Rattle.rt_table_row.specs.Rows.{TableRow, row_at}
use Rattle.rt_table_row.specs.Conditions.{holds}
use Rattle.rt_table_row.specs.Filters.{Placed, IsFilterOf, admits}
use Rattle.rt_table_row.specs.Views.{View}
use Rattle.rt_table_view.specs.declared.view.Watched.{Watched}
use Rattle.rt_table_view.specs.declared.view.Shift.{Shift}
use Rattle.rt_table_view.specs.Watching.{view_of, awaited_of, is_picked, shifted_ids, AreShifts, IsKept, IsRefreshed, IsRoomier}
use Rattle.rt_table_view.specs.Fates.{shifts_at}
use Rattle.rt_table_view.specs.Preparing.{DifferAt, IsAwaited}
use Rattle.rt_table_view.proofs.Touching.{shifts_are}

-- ---- lists

unmapped : {X Y : Type 0} (P : Y → Type 0) (f : X → Y) (xs : List X) → AllByRecursion P (map f xs) → AllByRecursion (λ x. P (f x)) xs
unmapped P f [] all = tt
unmapped P f (x ∷ xs) all = (all.0, unmapped P f xs all.1)

pub All-unmapped : {X Y : Type 0} (P : Y → Type 0) (f : X → Y) (xs : List X) → All P (map f xs) → All (λ x. P (f x)) xs
All-unmapped P f xs all = All-from_recursion (λ x. P (f x)) xs (unmapped P f xs (recursion_from_All P (map f xs) all))

-- ---- shifts

picked_alike : (p q : TableRow → Bool) → ((r : TableRow) → p r ≡ q r) → (o : Option TableRow) → is_picked p o ≡ is_picked q o
picked_alike p q same None = refl
picked_alike p q same (Some r) = same r

-- shifts by a test are shifts by another that gives the same
pub shifts_alike : (p q : TableRow → Bool) (before after : List TableRow) (shifts : List Shift) → ((r : TableRow) → p r ≡ q r) → AreShifts p before after shifts → AreShifts q before after shifts
shifts_alike p q before after shifts same are = record {
  are_in = All-weaker (λ (s : Shift). s.is_in ≡ is_picked p (row_at after s.id)) (λ (s : Shift). s.is_in ≡ is_picked q (row_at after s.id))
      (λ s is. is ∙ picked_alike p q same (row_at after s.id)) shifts are.are_in;
  others = λ id none. sym (picked_alike p q same (row_at after id)) ∙ are.others id none ∙ picked_alike p q same (row_at before id);
}

module _ (columns : Columns) (before after : List TableRow) where
  now_kept : (o : Watched) → AreShifts (admits o.filter) before after o.shifts.items → IsKept columns before o → (q : ℤ) → (b : Bool) → list_any (int_eq q) (shifted_ids o.shifts.items) ≡ b
      → (if b then is_picked (admits o.filter) (row_at after q) else list_any (int_eq q) o.ids.keys) ≡ is_picked (admits o.filter) (row_at after q)
  now_kept o shifts kept q true is = refl
  now_kept o shifts kept q false is = kept.ids_are q ∙ sym (shifts.others q is)

  one_kept : (o n : Watched) → IsRefreshed o n → IsAwaited columns before after (awaited_of o) → IsKept columns before o → IsKept columns after n
  one_kept o n fresh awaited kept =
      let shifts : AreShifts (admits o.filter) before after o.shifts.items =
      shifts_alike (holds columns o.filter.cond) (admits o.filter) before after o.shifts.items (λ r. sym (kept.filter_is.same r)) awaited.shifts in
      record {
        filter_is = subst (λ (f : Placed). IsFilterOf columns f.cond f) (sym fresh.filter_is) kept.filter_is;
        ids_are = λ q.
            subst (λ (f : Placed). list_any (int_eq q) n.ids.keys ≡ is_picked (admits f) (row_at after q)) (sym fresh.filter_is)
            (fresh.ids_are (λ z. is_picked (admits o.filter) (row_at after z)) shifts.are_in q ∙ now_kept o shifts kept q (list_any (int_eq q) (shifted_ids o.shifts.items)) refl);
      }

  pub all_kept : (old new : List Watched) → length new ≡ length old → ((k : ℕ) (w : Watched) → k < length old → IsRefreshed (get_or old k w) (get_or new k w))
      → All (IsAwaited columns before after) (map awaited_of old) → All (IsKept columns before) old → All (IsKept columns after) new
  all_kept old new same fresh awaited kept =
      let each : All (λ (w : Watched). IsAwaited columns before after (awaited_of w)) old = All-unmapped (IsAwaited columns before after) awaited_of old awaited in
      λ k w within. one_kept (get_or old k w) (get_or new k w) (fresh k w (omega arith)) (each k w (omega arith)) (kept k w (omega arith))

-- the same names and filters, so the same views
same_view : (o n : Watched) → n.name ≡ o.name → n.filter ≡ o.filter → view_of n ≡ view_of o
same_view o n name filter =
    let named : List ℕ → View = λ name. record { name = name; cond = n.filter.cond } in
    let tested : Placed → View = λ f. record { name = o.name; cond = f.cond } in
    ap named name ∙ ap tested filter

pub same_views : (old new : List Watched) → length new ≡ length old → ((k : ℕ) (w : Watched) → k < length old → ((get_or new k w).name ≡ (get_or old k w).name) × ((get_or new k w).filter ≡ (get_or old k w).filter))
    → map view_of new ≡ map view_of old
same_views [] [] same each = refl
same_views [] (n ∷ new) same each = absurd (omega arith)
same_views (o ∷ old) [] same each = absurd (omega arith)
same_views (o ∷ old) (n ∷ new) same each =
    let first = each zero o (omega arith) in
    ap (λ (v : View). v ∷ map view_of new) (same_view o n first.0 first.1)
    ∙ ap (λ (vs : List View). view_of o ∷ vs) (same_views old new (omega arith) (λ k w lt. each (suc k) w (omega arith)))

-- ---- the same view, whatever it has ready

same_kept : (columns : Columns) (rows : List TableRow) (o n : Watched) → IsRoomier o n → IsKept columns rows o → IsKept columns rows n
same_kept columns rows o n same kept = record {
  filter_is = subst (λ (f : Placed). IsFilterOf columns f.cond f) (sym same.filter_is) kept.filter_is;
  ids_are = λ q.
      subst (λ (f : Placed). list_any (int_eq q) n.ids.keys ≡ is_picked (admits f) (row_at rows q)) (sym same.filter_is)
      (ap (list_any (int_eq q)) same.keys_are ∙ kept.ids_are q);
}

pub still_kept : (columns : Columns) (rows : List TableRow) (old new : List Watched) → length new ≡ length old → ((k : ℕ) (w : Watched) → k < length old → IsRoomier (get_or old k w) (get_or new k w))
    → All (IsKept columns rows) old → All (IsKept columns rows) new
still_kept columns rows old new same roomier kept = λ k w within. same_kept columns rows (get_or old k w) (get_or new k w) (roomier k w (omega arith)) (kept k w (omega arith))

-- ---- a view awaits what the touched ids shift in it

module _ (columns : Columns) (before after : List TableRow) (then_at : ℤ → Option TableRow) (is_then : (q : ℤ) → row_at after q ≡ then_at q)
    (ids : List ℤ) (differ : DifferAt ids before after) where
  one_awaits : (o n : Watched) → IsRoomier o n → n.shifts.items ≡ flat_map (shifts_at o before then_at) ids → length n.shifts.items ≤ spare n.ids → IsKept columns before o
      → IsAwaited columns before after (awaited_of n)
  one_awaits o n same shifts room kept = record {
    shifts = subst (λ (ss : List Shift). AreShifts (holds columns n.filter.cond) before after ss) (sym shifts)
        (subst (λ (f : Placed). AreShifts (holds columns f.cond) before after (flat_map (shifts_at o before then_at) ids)) (sym same.filter_is)
        (shifts_alike (admits o.filter) (holds columns o.filter.cond) before after (flat_map (shifts_at o before then_at) ids) kept.filter_is.same (shifts_are o before after then_at is_then ids differ)));
    room = room;
  }

  pub all_await : (old new : List Watched) → length new ≡ length old → ((k : ℕ) (w : Watched) → k < length old → IsRoomier (get_or old k w) (get_or new k w))
      → ((k : ℕ) (w : Watched) → k < length old → (get_or new k w).shifts.items ≡ flat_map (shifts_at (get_or old k w) before then_at) ids)
      → All (λ (w : Watched). length w.shifts.items ≤ spare w.ids) new
      → All (IsKept columns before) old → All (IsAwaited columns before after) (map awaited_of new)
  all_await old new same roomier shifts room kept =
      All-map (IsAwaited columns before after) awaited_of new
      (λ k w within. one_awaits (get_or old k w) (get_or new k w) (roomier k w (omega arith)) (shifts k w (omega arith)) (room k w (omega arith)) (kept k w (omega arith)))
