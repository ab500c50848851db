-- A view by its name.
use Rattle.std.proofs.Common.{◌≡◌, ℕ, ◌<◌, Bool, true, false, cond, ◌||◌, List, [], ◌∷◌, map, filter, length, get_or, Option, Some, None, Err, refl, ap, ◌∙◌}
use Rattle.std.specs.Prelude.{find, position, slice_get}
use Rattle.std.specs.List.{list_any, position_or_len}
use Rattle.std.specs.Option.{option_map}
use Rattle.std.proofs.lemmas.Option.{slice_get_read}
use Rattle.std.proofs.lemmas.List.Elements.{filter_agree}
use Rattle.std.proofs.lemmas.List.Folds.{find_at}
use Rattle.std.proofs.lemmas.List.Quantifiers.{position-Some}
use Rattle.rt_sql_statement.specs.declared.value.Value.{Value}
use Rattle.rt_sql_statement.specs.declared.refusal.Refusal.TheVariants.{NoSuchView}
use Rattle.rt_table_row.specs.Rows.{values_of}
use Rattle.rt_table_row.specs.Conditions.{holds, picked}
use Rattle.rt_table_row.specs.Filters.{admits}
use Rattle.rt_table_row.specs.Tables.{TableLists, view, view_outcome, is_view}
use Rattle.rt_table_view.specs.declared.view.Watched.{Watched}
use Rattle.rt_table_view.specs.Watching.{view_of, IsKept}
use Rattle.rt_table_view.proofs.Looking.{find_mapped}
use Rattle.rt_table.specs.Replies.{Shows}
use Rattle.rt_table.proofs.Viewing.{any_mapped, not_placed}

place_is : (b : Bool) (n k : ℕ) → cond b (Some n) None ≡ Some k → n ≡ k
place_is true n k e = cc
place_is false n k e = cc

pub found_view : {X Y : Type 0} (p : Y → Bool) (f : X → Y) (xs : List X) (at : ℕ) (x : X) → position (λ x. p (f x)) xs ≡ Some at → x ≡ get_or xs at x → find p (map f xs) ≡ Some (f x)
found_view p f xs at x placed read =
    let within : at < length xs = (position-Some (λ x. p (f x)) xs at x placed).0 in
    let place : position_or_len (λ x. p (f x)) xs ≡ at = place_is _ _ at placed in
    find_mapped p f xs ∙ ap (option_map f) (find_at (λ x. p (f x)) xs ∙ ap (slice_get xs) place ∙ slice_get_read xs (length xs) at x refl within read)

none_first : {X : Type 0} (b later : Bool) (x : X) (o : Option X) → (b || later) ≡ false → (later ≡ false → o ≡ None) → cond b (Some x) o ≡ None
none_first true later x o none rest = cc
none_first false later x o none rest = rest none

none_found : {X : Type 0} (p : X → Bool) (xs : List X) → list_any p xs ≡ false → find p xs ≡ None
none_found p [] none = refl
none_found p (x ∷ xs) none = none_first (p x) (list_any p xs) x (find p xs) none (none_found p xs)

pub no_view : (lists : TableLists) (name : List ℕ) (views : List Watched) → lists.views ≡ map view_of views → position (λ (w : Watched). is_view name (view_of w)) views ≡ None → view lists name ≡ Err NoSuchView
no_view lists name views same none =
    ap (view_outcome lists) (ap (find (is_view name)) same ∙ none_found (is_view name) (map view_of views) (any_mapped (is_view name) view_of views ∙ not_placed (λ (w : Watched). is_view name (view_of w)) views none))

pub view_shown : (lists : TableLists) (name : List ℕ) (views : List Watched) (at : ℕ) (w : Watched) → lists.views ≡ map view_of views → position (λ (w : Watched). is_view name (view_of w)) views ≡ Some at
    → w ≡ get_or views at w → IsKept lists.columns lists.rows w → (values : List (List Value)) → values ≡ map values_of (filter (admits w.filter) lists.rows) → Shows (view lists name) values
view_shown lists name views at w same placed read kept values shown = (
  picked lists.columns w.filter.cond lists.rows,
  ap (view_outcome lists) (ap (find (is_view name)) same ∙ found_view (is_view name) view_of views at w placed read),
  shown ∙ ap (map values_of) (filter_agree (admits w.filter) (holds lists.columns w.filter.cond) kept.filter_is.same lists.rows),
)
