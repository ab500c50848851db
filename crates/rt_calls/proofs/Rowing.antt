-- The rows that a caller's lists tell, one more at a time.
use Rattle.std.proofs.Common.{◌≡◌, ℕ, ◌+◌, ◌*◌, ◌<◌, ℤ, pos, List, [], ◌∷◌, ◌++◌, length, get_or, take, drop, All, Some, IsSome, refl, sym, ap, subst, ◌∙◌}
use Rattle.std.specs.Prelude.{is_some}
use Rattle.std.specs.List.{list_any}
use Rattle.std.specs.Ordering.{int_eq}
use Rattle.std.proofs.lemmas.Bool.Decides.{Decides-int_eq}
use Rattle.std.proofs.lemmas.List.Folds.{list_any_at}
use Rattle.std.proofs.Math.Seq.{take-add}
use Rattle.std.proofs.lemmas.List.{length-append, map-append, take_more, flat_map_more}
use Rattle.std.proofs.lemmas.List.Elements.{All-nil, All-push, All-take, All-drop}
use Rattle.rt_box.specs.declared.interval.Interval.{Interval}
use Rattle.rt_box.specs.Rect.{IsBox}
use Rattle.rt_check.specs.Shadow.{ShadowLists}
use Rattle.rt_tree.specs.Lists.{box_of}
use Rattle.rt_tree_walk.specs.declared.searching.Row.{Row}
use Rattle.rt_calls.specs.Numbers.{numbers_of, ids_of, box_numbers, AreRows}
use Rattle.rt_calls.specs.Places.{AreRowsOf}

module _ {D : ℕ} where
  pub ids_pushed : (rows : List (Row D)) (row : Row D) → ids_of (rows ++ row ∷ []) ≡ ids_of rows ++ row.id ∷ []
  ids_pushed rows row = map-append (λ (r : Row D). r.id) rows (row ∷ [])

  pub boxes_pushed : (rows : List (Row D)) (row : Row D) → box_numbers (rows ++ row ∷ []) ≡ box_numbers rows ++ numbers_of row.rect
  boxes_pushed rows row = sym (flat_map_more (λ (r : Row D). numbers_of r.rect) [] rows row)

  pub rows_more : (ids numbers : List ℤ) (rows new : List (Row D)) (row : Row D) (place from : ℕ) → place < length ids →
      get_or ids place (pos 0) ≡ row.id → numbers_of row.rect ≡ take (2 * D) (drop from numbers) → IsBox D row.rect → new ≡ rows ++ row ∷ [] →
      AreRows (take place ids) (take from numbers) rows → AreRows (take (place + 1) ids) (take (from + 2 * D) numbers) new
  rows_more ids numbers rows new row place from within is numbers_are box pushed has =
      subst (λ (l : List (Row D)). AreRows (take (place + 1) ids) (take (from + 2 * D) numbers) l) (sym pushed) (
        ids_pushed rows row ∙ ap (λ l. l ++ row.id ∷ []) has.0 ∙ ap (λ i. take place ids ++ i ∷ []) (sym is) ∙ sym (take_more ids place (pos 0) within),
        boxes_pushed rows row ∙ ap (λ l. l ++ numbers_of row.rect) has.1 ∙ ap (λ l. take from numbers ++ l) numbers_are ∙ sym (take-add from (2 * D) numbers),
        All-push (λ (r : Row D). IsBox D r.rect) rows row has.2 box,
      )

  -- no row so far
  pub rows_none : (ids numbers : List ℤ) (rows : List (Row D)) → rows ≡ [] → AreRows (take 0 ids) (take 0 numbers) rows
  rows_none ids numbers rows none =
      subst (λ (l : List (Row D)). AreRows (take 0 ids) (take 0 numbers) l) (sym none) (refl, refl, All-nil (λ (r : Row D). IsBox D r.rect))

-- the rows of a tree with given ids, their boxes written one after another
module _ {D : ℕ} (s : ShadowLists D) where
  abbrev pub AreWritten : List ℤ → List ℤ → ℕ → Type 0
  AreWritten ids boxes from = (rows : List (Row D)) × AreRowsOf s ids rows × (length (box_numbers rows) ≡ from) × (take from boxes ≡ box_numbers rows)

  pub written_more : (ids old new : List ℤ) (rect : List Interval) (id : ℤ) (place from : ℕ) → place < length ids → id ≡ get_or ids place (pos 0) →
      box_of s id ≡ Some rect → length (numbers_of rect) ≡ 2 * D → take (from + length (numbers_of rect)) new ≡ take from old ++ numbers_of rect →
      AreWritten (take place ids) old from → AreWritten (take (place + 1) ids) new (from + 2 * D)
  written_more ids old new rect id place from within is there long front has =
      let row : Row D = record { rect = rect; id = id } in
      let step : from + length (numbers_of rect) ≡ from + 2 * D = ap (λ n. from + n) long in (
        has.0 ++ row ∷ [],
        (
          ids_pushed has.0 row ∙ ap (λ l. l ++ id ∷ []) has.1.0 ∙ ap (λ i. take place ids ++ i ∷ []) is ∙ sym (take_more ids place (pos 0) within),
          All-push (λ (r : Row D). box_of s r.id ≡ Some r.rect) has.0 row has.1.1 there,
        ),
        ap length (boxes_pushed has.0 row) ∙ length-append (box_numbers has.0) (numbers_of rect) ∙ ap (λ n. n + length (numbers_of rect)) has.2 ∙ step,
        ap (λ n. take n new) (sym step) ∙ front ∙ ap (λ l. l ++ numbers_of rect) has.3 ∙ sym (boxes_pushed has.0 row),
      )

  -- each id of an order is that of a row, also of a part of it
  pub all_there : (order : List ℤ) (from most : ℕ) → ((id : ℤ) → list_any (int_eq id) order ≡ is_some (box_of s id)) →
      All (λ id. IsSome (box_of s id)) (take most (drop from order))
  all_there order from most each =
      let There : ℤ → Type 0 = λ id. IsSome (box_of s id) in
      let all : All There order = λ k d within. let id = get_or order k d in
      sym (each id) ∙ list_any_at (int_eq id) order k d within ((Decides-int_eq id id).1 refl) in
      All-take There most (drop from order) (All-drop There from order all)
