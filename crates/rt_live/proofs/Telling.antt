-- What is told of the rows that touch neither box: nothing.
use Rattle.std.proofs.Common.{◌≡◌, ℕ, ℤ, Bool, true, false, ◌||◌, cond, List, [], ◌∷◌, ◌++◌, Option, Some, None, inl, inr, refl, ap, sym, ◌∙◌}
use Rattle.std.specs.Prelude.{filter, is_some}
use Rattle.std.specs.List.{flat_map}
use Rattle.std.proofs.lemmas.Bool.{cases_Bool, true≢false}
use Rattle.rt_box.specs.declared.interval.Interval.{Interval}
use Rattle.rt_tree_walk.specs.declared.searching.Row.{Row}
use Rattle.rt_live.specs.Changes.{touches, told_of_row, told_of_window, listed, told_each, window_changes, stays, row_changes}
use Rattle.rt_tree_join.specs.Join.{touch}
use Rattle.rt_live.specs.Finding.{Encloses, touches_hull, is_told, touches_either}
use Rattle.rt_live.specs.declared.change.Kind.{Kind}
use Rattle.rt_live.specs.declared.change.Change.{Change}

module _ {X Y : Type 0} (f : X → List Y) (p : X → Bool) (silent : (x : X) → p x ≡ false → f x ≡ []) where
  step : (x : X) (xs : List X) → flat_map f (filter p xs) ≡ flat_map f xs → (b : Bool) → p x ≡ b → flat_map f (cond b (x ∷ filter p xs) (filter p xs)) ≡ f x ++ flat_map f xs
  step x xs later true is = ap (λ (ys : List Y). f x ++ ys) later
  step x xs later false is = later ∙ sym (ap (λ (ys : List Y). ys ++ flat_map f xs) (silent x is))

  flat_map-filter : (xs : List X) → flat_map f (filter p xs) ≡ flat_map f xs
  flat_map-filter [] = refl
  flat_map-filter (x ∷ xs) = step x xs (flat_map-filter xs) (p x) refl

silent_row : (window id : ℤ) (a b : Bool) → (a || b) ≡ false → listed window id (told_of_row a b) ≡ []
silent_row window id true b e = cc
silent_row window id false true e = cc
silent_row window id false false e = refl

silent_window : (window id : ℤ) (a b : Bool) → (a || b) ≡ false → listed window id (told_of_window a b) ≡ []
silent_window window id true b e = cc
silent_window window id false true e = cc
silent_window window id false false e = refl

pub silent_untold : (window id : ℤ) (told : Option Kind) → is_some told ≡ false → listed window id told ≡ []
silent_untold window id None e = refl
silent_untold window id (Some kind) e = absurd (true≢false e)

-- a row of which a window is told touches one of the boxes
pub told-either : (a b : Bool) → is_some (told_of_window a b) ≡ true → (a || b) ≡ true
told-either true b e = refl
told-either false true e = refl
told-either false false e = e

-- nothing is told of a row that a window sees before and after, or never
pub same_window : (window id : ℤ) (b : Bool) → listed window id (told_of_window b b) ≡ []
same_window window id true = refl
same_window window id false = refl

pub nothing-told : {D : ℕ} (rows : List (Row D)) (id : ℤ) (o : Option (List Interval)) → window_changes rows id o o ≡ []
nothing-told [] id o = refl
nothing-told (r ∷ rows) id o = ap (λ (cs : List Change). cs ++ window_changes rows id o o) (same_window id r.id (touches o r.rect)) ∙ nothing-told rows id o

module _ {D : ℕ} (rows : List (Row D)) (id : ℤ) (was is : Option (List Interval)) where
  pub told-found : told_each (filter (touches_either was is) rows) id was is ≡ told_each rows id was is
  told-found =
      flat_map-filter (λ (w : Row D). listed w.id id (told_of_row (touches was w.rect) (touches is w.rect))) (touches_either was is)
      (λ w e. silent_row w.id id (touches was w.rect) (touches is w.rect) e) rows

  pub window-found : window_changes (filter (touches_either was is) rows) id was is ≡ window_changes rows id was is
  window-found =
      flat_map-filter (λ (r : Row D). listed id r.id (told_of_window (touches was r.rect) (touches is r.rect))) (touches_either was is)
      (λ r e. silent_window id r.id (touches was r.rect) (touches is r.rect) e) rows

  -- those that touch a box around both boxes
  module _ (hull : List Interval) (inside : Encloses was is hull) where
    apart : (other : List Interval) → touch hull other ≡ false → (touches was other || touches is other) ≡ false
    apart other e = elim (cases_Bool (touches was other || touches is other)) [
      | inl h ↦ absurd (true≢false (sym (inside other h) ∙ e))
      | inr h ↦ h
    ]

    pub told-around : told_each (filter (touches_hull hull) rows) id was is ≡ told_each rows id was is
    told-around =
        flat_map-filter (λ (w : Row D). listed w.id id (told_of_row (touches was w.rect) (touches is w.rect))) (touches_hull hull)
        (λ w e. silent_row w.id id (touches was w.rect) (touches is w.rect) (apart w.rect e)) rows

  pub window-told : window_changes (filter (is_told was is) rows) id was is ≡ window_changes rows id was is
  window-told =
      flat_map-filter (λ (r : Row D). listed id r.id (told_of_window (touches was r.rect) (touches is r.rect))) (is_told was is)
      (λ r e. silent_untold id r.id (told_of_window (touches was r.rect) (touches is r.rect)) e) rows

  pub row_changes-told : stays was is ≡ false → row_changes rows id was is ≡ told_each rows id was is
  row_changes-told moves = ap (λ (b : Bool). cond b [] (told_each rows id was is)) moves
