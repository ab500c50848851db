-- What clauses see of rows, windows and changes, from what is kept.
use Rattle.std.proofs.Common.{◌≡◌, ℕ, ℤ, Bool, true, false, cond, ◌||◌, List, [], ◌∷◌, map, length, Option, Some, None, IsSome, refl, sym, ap, ◌∙◌}
use Rattle.std.specs.Prelude.{filter}
use Rattle.std.specs.Option.{is_some}
use Rattle.rt_box.specs.declared.interval.Interval.{Interval}
use Rattle.rt_check.specs.Shadow.{ShadowLists}
use Rattle.rt_tree_walk.specs.declared.searching.Row.{Row}
use Rattle.rt_tree.specs.Lists.{IsInShape, rows_of, box_of}
use Rattle.rt_live.specs.declared.change.Change.{Change}
use Rattle.rt_live.specs.declared.live.Live.TheInside.{Inside}
use Rattle.rt_live.specs.Rows.{box_at, with_box, by_id}
use Rattle.rt_live.specs.Changes.{touches, stays, told_each, row_changes, window_changes}
use Rattle.rt_live.specs.Live.{LiveLists, LiveState, with_row, with_window, seen}
use Rattle.rt_live.specs.LiveInside.{state_of}
use Rattle.rt_live.specs.Finding.{touches_either}
use Rattle.rt_live.proofs.ById.{box_at-by_id}
use Rattle.rt_live.proofs.Once.{length-by_id}
use Rattle.rt_live.proofs.Kept.{kept, staying-box}
use Rattle.rt_live.proofs.Telling.{nothing-told}

-- ---- one box
one-step : {D : ℕ} (rect : Option (List Interval)) (r : Row D) (xs ys : List (Row D)) → xs ≡ ys → (b : Bool) → cond (b || false) (r ∷ xs) xs ≡ cond b (r ∷ ys) ys
one-step rect r xs ys e true = ap (λ zs. r ∷ zs) e
one-step rect r xs ys e false = e

one-box : {D : ℕ} (rect : Option (List Interval)) (rows : List (Row D)) → filter (touches_either rect None) rows ≡ filter (λ r. touches rect r.rect) rows
one-box rect [] = refl
one-box rect (r ∷ rows) = one-step rect r (filter (touches_either rect None) rows) (filter (λ x. touches rect x.rect) rows) (one-box rect rows) (touches rect r.rect)

-- ---- what a look-up says
pub no-box : {X : Type 0} (o : Option X) → is_some o ≡ false → o ≡ None
no-box None e = refl
no-box (Some x) e = absurd (let none : ⊥ = cc in none)

-- a box that was looked for isn't there
pub not-there : {X : Type 0} (o p : Option X) (b : Bool) → o ≡ p → b ≡ is_some p → b ≡ false → IsSome o → ⊥
not-there o p b same told missing some = let e : true ≡ false = sym some ∙ ap is_some same ∙ sym told ∙ missing in let none : ⊥ = cc in none

-- a box that was found is there
pub found-there : {X : Type 0} (o p : Option X) → o ≡ p → is_some p ≡ true → o ≡ None → ⊥
found-there o p same some absent = let e : true ≡ false = sym some ∙ ap is_some (sym same) ∙ ap is_some absent in let none : ⊥ = cc in none

module _ {D : ℕ} where
  pub three : (r s w x : List (Row D)) (c d : List Change) → r ≡ s → w ≡ x → c ≡ d →
      ◌≡◌ {A = LiveLists D} record { rows = r; windows = w; changes = c } record { rows = s; windows = x; changes = d }
  three r s w x c d e f h =
      let with_rows : List (Row D) → LiveLists D = λ y. record { rows = y; windows = w; changes = c } in
      let with_windows : List (Row D) → LiveLists D = λ y. record { rows = s; windows = y; changes = c } in
      let with_changes : List Change → LiveLists D = λ y. record { rows = s; windows = x; changes = y } in
      ap with_rows e ∙ ap with_windows f ∙ ap with_changes h

  rows-alike : (s t : ShadowLists D) → s ≡ t → by_id (rows_of s) ≡ by_id (rows_of t)
  rows-alike s t e = ap (λ (u : ShadowLists D). by_id (rows_of u)) e

  module _ (i j : Inside D) (v : LiveState D) (is : state_of i ≡ v) where
    -- all is as before
    pub staying : j.rows.lists ≡ i.rows.lists → j.windows.lists ≡ i.windows.lists → j.changes.items ≡ i.changes.items → (state_of j).lists ≡ v.lists
    staying rows windows changes =
        three (by_id (rows_of j.rows.lists)) (by_id (rows_of i.rows.lists)) (by_id (rows_of j.windows.lists)) (by_id (rows_of i.windows.lists)) j.changes.items i.changes.items
        (rows-alike j.rows.lists i.rows.lists rows) (rows-alike j.windows.lists i.windows.lists windows) changes
        ∙ ap (λ (u : LiveState D). u.lists) is

    pub row-edited : (id : ℤ) (was now : Option (List Interval)) → box_at v.lists.rows id ≡ was → by_id (rows_of j.rows.lists) ≡ with_box (by_id (rows_of i.rows.lists)) id now →
        j.windows.lists ≡ i.windows.lists → j.changes.items ≡ row_changes (by_id (rows_of i.windows.lists)) id was now → (state_of j).lists ≡ with_row v.lists id now
    row-edited id was now there rows windows changes =
        three (by_id (rows_of j.rows.lists)) (with_box (by_id (rows_of i.rows.lists)) id now) (by_id (rows_of j.windows.lists)) (by_id (rows_of i.windows.lists))
        j.changes.items (row_changes (by_id (rows_of i.windows.lists)) id (box_at (by_id (rows_of i.rows.lists)) id) now)
        rows (rows-alike j.windows.lists i.windows.lists windows)
        (changes ∙ ap (λ (o : Option (List Interval)). row_changes (by_id (rows_of i.windows.lists)) id o now) (sym there ∙ sym (ap (λ (u : LiveState D). box_at u.lists.rows id) is)))
        ∙ ap (λ (u : LiveState D). with_row u.lists id now) is

    pub window-edited : (id : ℤ) (was now : Option (List Interval)) → box_at v.lists.windows id ≡ was → by_id (rows_of j.windows.lists) ≡ with_box (by_id (rows_of i.windows.lists)) id now →
        j.rows.lists ≡ i.rows.lists → j.changes.items ≡ window_changes (by_id (rows_of i.rows.lists)) id was now → (state_of j).lists ≡ with_window v.lists id now
    window-edited id was now there windows rows changes =
        three (by_id (rows_of j.rows.lists)) (by_id (rows_of i.rows.lists)) (by_id (rows_of j.windows.lists)) (with_box (by_id (rows_of i.windows.lists)) id now)
        j.changes.items (window_changes (by_id (rows_of i.rows.lists)) id (box_at (by_id (rows_of i.windows.lists)) id) now)
        (rows-alike j.rows.lists i.rows.lists rows) windows
        (changes ∙ ap (λ (o : Option (List Interval)). window_changes (by_id (rows_of i.rows.lists)) id o now) (sym there ∙ sym (ap (λ (u : LiveState D). box_at u.lists.windows id) is)))
        ∙ ap (λ (u : LiveState D). with_window u.lists id now) is

    -- ---- one look-up
    pub row-box : (id : ℤ) → box_at v.lists.rows id ≡ box_of i.rows.lists id
    row-box id = sym (ap (λ (u : LiveState D). box_at u.lists.rows id) is) ∙ box_at-by_id (rows_of i.rows.lists) id

    pub window-box : (id : ℤ) → box_at v.lists.windows id ≡ box_of i.windows.lists id
    window-box id = sym (ap (λ (u : LiveState D). box_at u.lists.windows id) is) ∙ box_at-by_id (rows_of i.windows.lists) id

    pub rows-long : IsInShape i.rows.lists → length v.lists.rows ≡ length i.rows.lists.rows
    rows-long shape = sym (ap (λ (u : LiveState D). length u.lists.rows) is) ∙ length-by_id i.rows.lists shape

    pub windows-long : IsInShape i.windows.lists → length v.lists.windows ≡ length i.windows.lists.rows
    windows-long shape = sym (ap (λ (u : LiveState D). length u.lists.windows) is) ∙ length-by_id i.windows.lists shape

    -- ---- a box that stays
    pub row-stays : (id : ℤ) (was now : Option (List Interval)) → box_at v.lists.rows id ≡ was → stays was now ≡ true → j.rows.lists ≡ i.rows.lists → j.windows.lists ≡ i.windows.lists →
        j.changes.items ≡ [] → (state_of j).lists ≡ with_row v.lists id now
    row-stays id was now there same rows windows changes =
        let here : box_of i.rows.lists id ≡ now = sym (row-box id) ∙ there ∙ staying-box was now same in
        row-edited id was now there (rows-alike j.rows.lists i.rows.lists rows ∙ kept i.rows.lists id now here) windows
        (changes ∙ sym (ap (λ (b : Bool). cond b [] (told_each (by_id (rows_of i.windows.lists)) id was now)) same))

    pub window-stays : (id : ℤ) (was now : Option (List Interval)) → box_at v.lists.windows id ≡ was → stays was now ≡ true → j.rows.lists ≡ i.rows.lists → j.windows.lists ≡ i.windows.lists →
        j.changes.items ≡ [] → (state_of j).lists ≡ with_window v.lists id now
    window-stays id was now there same rows windows changes =
        let here : box_of i.windows.lists id ≡ now = sym (window-box id) ∙ there ∙ staying-box was now same in
        window-edited id was now there (rows-alike j.windows.lists i.windows.lists windows ∙ kept i.windows.lists id now here) rows
        (changes ∙ sym (ap (λ (o : Option (List Interval)). window_changes (by_id (rows_of i.rows.lists)) id o now) (staying-box was now same) ∙ nothing-told (by_id (rows_of i.rows.lists)) id now))

    -- ---- the rows that a window sees
    pub seen-found : (window : ℤ) (rect : Option (List Interval)) → box_at v.lists.windows window ≡ rect →
        map (λ r. r.id) (filter (touches_either rect None) (by_id (rows_of i.rows.lists))) ≡ seen v.lists window
    seen-found window rect there =
        ap (map (λ (r : Row D). r.id)) (one-box rect (by_id (rows_of i.rows.lists)))
        ∙ ap (λ (o : Option (List Interval)). map (λ (r : Row D). r.id) (filter (λ r. touches o r.rect) (by_id (rows_of i.rows.lists)))) (sym there)
        ∙ ap (λ (u : LiveState D). map (λ (r : Row D). r.id) (filter (λ r. touches (box_at v.lists.windows window) r.rect) u.lists.rows)) is
