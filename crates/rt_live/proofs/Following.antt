-- A copy of what a window sees, which follows the changes, is what the window sees.
use Rattle.std.proofs.Common.{◌≡◌, ℕ, ℤ, Bool, true, false, not, cond, List, [], ◌∷◌, ◌++◌, map, Option, Some, None, refl, sym, ap, subst, ◌∙◌}
use Rattle.std.specs.Prelude.{filter}
use Rattle.std.specs.Option.{option_map}
use Rattle.std.specs.Ordering.{int_eq}
use Rattle.rt_box.specs.declared.interval.Interval.{Interval}
use Rattle.rt_tree_walk.specs.declared.searching.Row.{Row}
use Rattle.rt_tree_join.specs.Join.{touch}
use Rattle.rt_tree_join.proofs.Boxes.{touch-same}
use Rattle.rt_live.specs.declared.change.Kind.{Kind}
use Rattle.rt_live.specs.declared.change.Kind.TheVariants.{Left, Came, Moved}
use Rattle.rt_live.specs.declared.change.Change.{Change}
use Rattle.rt_live.specs.Rows.{box_at, with_box}
use Rattle.rt_live.specs.Changes.{touches, stays, told_of_row, told_of_window, listed, told_each, window_changes}
use Rattle.rt_live.specs.Live.{LiveLists, seen}
use Rattle.rt_live.specs.Following.{after_kind, followed, Edit, row, window, edited, after, told, CopiesFollow}
use Rattle.rt_live.proofs.Order.{eq_same, eq_from}
use Rattle.rt_live.proofs.Sorted.{at_key, kept, Rises, rises, same_lists, none_below, at_key-filter, at_key-placed, at_key-taken, rises-filter, rises-placed, rises-taken}
use Rattle.rt_live.proofs.ById.{id_of, boxed, row-at, turn, box_at-with_box, rises-with_box, with_box-same}
use Rattle.rt_live.proofs.Once.{find-map, rises-map}
use Rattle.rt_live.proofs.Kept.{staying-box}

-- ---- a copy: ids by rising id
abbrev itself : ℤ → ℤ
itself x = x

abbrev at : List ℤ → ℤ → Option ℤ
at copy q = at_key itself copy q

abbrev after_told : List ℤ → ℤ → Option Kind → List ℤ
after_told copy id None = copy
after_told copy id (Some kind) = after_kind copy id kind

-- what is at the id of a change after it
abbrev value : Option ℤ → ℤ → Option Kind → Option ℤ
value o id None = o
value o id (Some Left) = None
value o id (Some Came) = Some id
value o id (Some Moved) = o

either : {X : Type 0} (b : Bool) (o : X) → o ≡ cond b o o
either true o = refl
either false o = refl

not-cond : {X : Type 0} (b : Bool) (o p : X) → cond (not b) o p ≡ cond b p o
not-cond true o p = refl
not-cond false o p = refl

at-told : (copy : List ℤ) (id : ℤ) (k : Option Kind) (q : ℤ) → at (after_told copy id k) q ≡ cond (int_eq q id) (value (at copy q) id k) (at copy q)
at-told copy id None q = either (int_eq q id) (at copy q)
at-told copy id (Some Moved) q = either (int_eq q id) (at copy q)
at-told copy id (Some Came) q = at_key-placed itself copy id q
at-told copy id (Some Left) q =
    at_key-taken itself copy id q ∙ not-cond (int_eq id q) (at copy q) None ∙ ap (λ (b : Bool). cond b None (at copy q)) (turn id q (int_eq q id) refl)

rises-told : (copy : List ℤ) (id : ℤ) (k : Option Kind) → Rises itself copy → Rises itself (after_told copy id k)
rises-told copy id None rise = rise
rises-told copy id (Some Moved) rise = rise
rises-told copy id (Some Came) rise = rises-placed itself copy id rise
rises-told copy id (Some Left) rise = rises-taken itself copy id rise

followed-append : (w : ℤ) (copy : List ℤ) (changes more : List Change) → followed w copy (changes ++ more) ≡ followed w (followed w copy changes) more
followed-append w copy [] more = refl
followed-append w copy (c ∷ changes) more = followed-append w (cond (int_eq w c.window) (after_kind copy c.id c.kind) copy) changes more

rises-cond : (copy : List ℤ) (id : ℤ) (k : Kind) (b : Bool) → Rises itself copy → Rises itself (cond b (after_kind copy id k) copy)
rises-cond copy id k true rise = rises-told copy id (Some k) rise
rises-cond copy id k false rise = rise

rises-followed : (w : ℤ) (copy : List ℤ) (changes : List Change) → Rises itself copy → Rises itself (followed w copy changes)
rises-followed w copy [] rise = rise
rises-followed w copy (c ∷ changes) rise =
    rises-followed w (cond (int_eq w c.window) (after_kind copy c.id c.kind) copy) changes (rises-cond copy c.id c.kind (int_eq w c.window) rise)

followed-listed : (w : ℤ) (copy : List ℤ) (v id : ℤ) (k : Option Kind) → followed w copy (listed v id k) ≡ cond (int_eq w v) (after_told copy id k) copy
followed-listed w copy v id None = either (int_eq w v) copy
followed-listed w copy v id (Some kind) = refl

module _ {D : ℕ} where
  -- ---- the ids of rows
  abbrev ids : List (Row D) → List ℤ
  ids rows = map (λ r. r.id) rows

  at-ids : (rows : List (Row D)) (q : ℤ) → at (ids rows) q ≡ option_map id_of (at_key id_of rows q)
  at-ids rows q = find-map id_of (int_eq q) rows

  rises-ids : (rows : List (Row D)) → Rises id_of rows → Rises itself (ids rows)
  rises-ids rows rise = rises-map itself id_of rows rise

  abbrev those : Option (List Interval) → List (Row D) → List ℤ
  those box rows = ids (filter (λ r. touches box r.rect) rows)

  rises-those : (box : Option (List Interval)) (rows : List (Row D)) → Rises id_of rows → Rises itself (those box rows)
  rises-those box rows rise = rises-ids (filter (λ r. touches box r.rect) rows) (rises-filter id_of (λ r. touches box r.rect) rows rise)

  abbrev sees : Option (List Interval) → Option (Row D) → Option ℤ
  sees box o = option_map id_of (kept (λ r. touches box r.rect) o)

  at-those : (box : Option (List Interval)) (rows : List (Row D)) → Rises id_of rows → (q : ℤ) → at (those box rows) q ≡ sees box (at_key id_of rows q)
  at-those box rows rise q =
      at-ids (filter (λ r. touches box r.rect) rows) q ∙ ap (option_map id_of) (at_key-filter id_of (λ r. touches box r.rect) rows rise q)

-- what a window sees at an id
seen-one : (D : ℕ) (id : ℤ) (box : List Interval) (o : Option (List Interval)) → sees {D = D} (Some box) (option_map (boxed {D = D} id) o) ≡ cond (touches o box) (Some id) None
seen-one D id box None = refl
seen-one D id box (Some rect) = seen-if (touch box rect) ∙ ap (λ (b : Bool). cond b (Some id) None) (touch-same box rect)
  where
    seen-if : (b : Bool) → option_map (id_of {D = D}) (cond b (Some (boxed {D = D} id rect)) None) ≡ cond b (Some id) None
    seen-if true = refl
    seen-if false = refl

told-value : (id : ℤ) (a b : Bool) → value (cond a (Some id) None) id (told_of_row a b) ≡ cond b (Some id) None
told-value id true true = refl
told-value id true false = refl
told-value id false true = refl
told-value id false false = refl

own-value : (id : ℤ) (a b : Bool) → value (cond a (Some id) None) id (told_of_window a b) ≡ cond b (Some id) None
own-value id true true = refl
own-value id true false = refl
own-value id false true = refl
own-value id false false = refl

box-cond : (D : ℕ) (id : ℤ) (now : Option (List Interval)) (q : ℤ) (b : Bool) (o : Option (List Interval)) → int_eq q id ≡ b →
    ◌≡◌ {A = Option (Row D)} (option_map (boxed q) (cond b now o)) (cond b (option_map (boxed id) now) (option_map (boxed q) o))
box-cond D id now q true o is = ap (λ (z : ℤ). option_map (boxed {D = D} z) now) (eq_from q id is)
box-cond D id now q false o is = refl

module _ {D : ℕ} where
  -- ---- a row is edited
  module _ (id : ℤ) (was now : Option (List Interval)) where
    abbrev kind_in : Row D → Option Kind
    kind_in x = told_of_row (touches was x.rect) (touches now x.rect)

    abbrev after_at : List ℤ → Option (Row D) → List ℤ
    after_at copy None = copy
    after_at copy (Some x) = after_told copy id (kind_in x)

    each-step : (w : ℤ) (copy : List ℤ) (x : Row D) (xs : List (Row D)) → Rises id_of (x ∷ xs) → ((c : List ℤ) → followed w c (told_each xs id was now) ≡ after_at c (at_key id_of xs w)) →
        (b : Bool) → int_eq w x.id ≡ b → followed w (cond b (after_told copy id (kind_in x)) copy) (told_each xs id was now) ≡ after_at copy (cond b (Some x) (at_key id_of xs w))
    each-step w copy x xs rise later true is =
        later (after_told copy id (kind_in x))
        ∙ ap (after_at (after_told copy id (kind_in x))) (ap (at_key id_of xs) (eq_from w x.id is) ∙ none_below id_of xs x.id rise.0)
    each-step w copy x xs rise later false is = later copy

    each-window : (w : ℤ) (windows : List (Row D)) → Rises id_of windows → (copy : List ℤ) → followed w copy (told_each windows id was now) ≡ after_at copy (at_key id_of windows w)
    each-window w [] rise copy = refl
    each-window w (x ∷ xs) rise copy =
        followed-append w copy (listed x.id id (kind_in x)) (told_each xs id was now)
        ∙ ap (λ (c : List ℤ). followed w c (told_each xs id was now)) (followed-listed w copy x.id id (kind_in x))
        ∙ each-step w copy x xs rise (each-window w xs rise.1) (int_eq w x.id) refl

    at-with_box : (rows : List (Row D)) (q : ℤ) → at_key id_of (with_box rows id now) q ≡ cond (int_eq q id) (option_map (boxed id) now) (at_key id_of rows q)
    at-with_box rows q =
        row-at (with_box rows id now) q ∙ ap (option_map (boxed q)) (box_at-with_box rows id now q) ∙ box-cond D id now q (int_eq q id) (box_at rows q) refl
        ∙ ap (λ (o : Option (Row D)). cond (int_eq q id) (option_map (boxed id) now) o) (sym (row-at rows q))

    module _ (rows : List (Row D)) (rise : Rises id_of rows) (there : box_at rows id ≡ was) (box : List Interval) where
      at-id : at_key id_of rows id ≡ option_map (boxed id) was
      at-id = row-at rows id ∙ ap (option_map (boxed id)) there

      both-at : (q : ℤ) (b : Bool) → int_eq q id ≡ b →
          cond b (value (sees (Some box) (at_key id_of rows q)) id (told_of_row (touches was box) (touches now box))) (sees (Some box) (at_key id_of rows q))
          ≡ sees (Some box) (cond b (option_map (boxed id) now) (at_key id_of rows q))
      both-at q true is =
          ap (λ (o : Option ℤ). value o id (told_of_row (touches was box) (touches now box)))
          (ap (λ (z : ℤ). sees (Some box) (at_key id_of rows z)) (eq_from q id is) ∙ ap (sees (Some box)) at-id ∙ seen-one D id box was)
          ∙ told-value id (touches was box) (touches now box)
          ∙ sym (seen-one D id box now)
      both-at q false is = refl

      in-window : after_told (those (Some box) rows) id (told_of_row (touches was box) (touches now box)) ≡ those (Some box) (with_box rows id now)
      in-window =
          let k = told_of_row (touches was box) (touches now box) in
          same_lists itself (after_told (those (Some box) rows) id k) (those (Some box) (with_box rows id now))
          (rises-told (those (Some box) rows) id k (rises-those (Some box) rows rise)) (rises-those (Some box) (with_box rows id now) (rises-with_box rows id now rise))
          (λ q.
          at-told (those (Some box) rows) id k q
          ∙ ap (λ (o : Option ℤ). cond (int_eq q id) (value o id k) o) (at-those (Some box) rows rise q)
          ∙ both-at q (int_eq q id) refl
          ∙ sym (at-those (Some box) (with_box rows id now) (rises-with_box rows id now rise) q ∙ ap (sees (Some box)) (at-with_box rows q)))

  none-seen : (rows : List (Row D)) → those None rows ≡ []
  none-seen [] = refl
  none-seen (r ∷ rows) = none-seen rows

  row-step : (rows windows : List (Row D)) (id : ℤ) (now : Option (List Interval)) (w : ℤ) → Rises id_of rows → Rises id_of windows → (b : Bool) → stays (box_at rows id) now ≡ b →
      followed w (those (box_at windows w) rows) (cond b [] (told_each windows id (box_at rows id) now)) ≡ those (box_at windows w) (with_box rows id now)
  row-step rows windows id now w rise window_rise true is =
      ap (those (box_at windows w)) (sym (with_box-same rows id now rise (staying-box (box_at rows id) now is)))
  row-step rows windows id now w rise window_rise false is =
      each-window id (box_at rows id) now w windows window_rise (those (box_at windows w) rows) ∙ by (at_key id_of windows w)
    where
      by : (o : Option (Row D)) → after_at id (box_at rows id) now (those (option_map (λ r. r.rect) o) rows) o ≡ those (option_map (λ r. r.rect) o) (with_box rows id now)
      by None = none-seen rows ∙ sym (none-seen (with_box rows id now))
      by (Some x) = in-window id (box_at rows id) now rows rise refl x.rect

  -- ---- a window is edited
  module _ (v : ℤ) (was now : Option (List Interval)) where
    abbrev kind_of : Row D → Option Kind
    kind_of r = told_of_window (touches was r.rect) (touches now r.rect)

    others : (w : ℤ) (copy : List ℤ) (rows : List (Row D)) → int_eq w v ≡ false → followed w copy (window_changes rows v was now) ≡ copy
    others w copy [] other = refl
    others w copy (r ∷ rows) other =
        followed-append w copy (listed v r.id (kind_of r)) (window_changes rows v was now)
        ∙ ap (λ (c : List ℤ). followed w c (window_changes rows v was now)) (followed-listed w copy v r.id (kind_of r) ∙ ap (λ (b : Bool). cond b (after_told copy r.id (kind_of r)) copy) other)
        ∙ others w copy rows other

    abbrev value_at : Option (Row D) → Option ℤ → Option ℤ
    value_at None o = o
    value_at (Some r) o = value o r.id (kind_of r)

    own-step : (x : Row D) (xs : List (Row D)) (q : ℤ) (o : Option ℤ) → Rises id_of (x ∷ xs) → (b : Bool) → int_eq q x.id ≡ b →
        value_at (at_key id_of xs q) (cond b (value o x.id (kind_of x)) o) ≡ value_at (cond b (Some x) (at_key id_of xs q)) o
    own-step x xs q o rise true is =
        ap (λ (p : Option (Row D)). value_at p (value o x.id (kind_of x))) (ap (at_key id_of xs) (eq_from q x.id is) ∙ none_below id_of xs x.id rise.0)
    own-step x xs q o rise false is = refl

    own : (rows : List (Row D)) → Rises id_of rows → (copy : List ℤ) (q : ℤ) → at (followed v copy (window_changes rows v was now)) q ≡ value_at (at_key id_of rows q) (at copy q)
    own [] rise copy q = refl
    own (x ∷ xs) rise copy q =
        let next = after_told copy x.id (kind_of x) in
        ap (λ (c : List ℤ). at c q) (
        followed-append v copy (listed v x.id (kind_of x)) (window_changes xs v was now)
        ∙ ap (λ (c : List ℤ). followed v c (window_changes xs v was now)) (followed-listed v copy v x.id (kind_of x) ∙ ap (λ (b : Bool). cond b next copy) (eq_same v))
        )
        ∙ own xs rise.1 next q
        ∙ ap (value_at (at_key id_of xs q)) (at-told copy x.id (kind_of x) q)
        ∙ own-step x xs q (at copy q) rise (int_eq q x.id) refl

    sees-if : (r : Row D) (b : Bool) → option_map id_of (cond b (Some r) None) ≡ cond b (Some r.id) None
    sees-if r true = refl
    sees-if r false = refl

    own-seen : (o : Option (Row D)) → value_at o (sees was o) ≡ sees now o
    own-seen None = refl
    own-seen (Some r) =
        ap (λ (m : Option ℤ). value m r.id (kind_of r)) (sees-if r (touches was r.rect)) ∙ own-value r.id (touches was r.rect) (touches now r.rect) ∙ sym (sees-if r (touches now r.rect))

    own-window : (rows : List (Row D)) → Rises id_of rows → followed v (those was rows) (window_changes rows v was now) ≡ those now rows
    own-window rows rise =
        same_lists itself (followed v (those was rows) (window_changes rows v was now)) (those now rows)
        (rises-followed v (those was rows) (window_changes rows v was now) (rises-those was rows rise)) (rises-those now rows rise)
        (λ q. own rows rise (those was rows) q ∙ ap (value_at (at_key id_of rows q)) (at-those was rows rise q) ∙ own-seen (at_key id_of rows q) ∙ sym (at-those now rows rise q))

  window-step : (rows windows : List (Row D)) (v : ℤ) (now : Option (List Interval)) (w : ℤ) → Rises id_of rows → (b : Bool) → int_eq w v ≡ b →
      followed w (those (box_at windows w) rows) (window_changes rows v (box_at windows v) now) ≡ those (cond b now (box_at windows w)) rows
  window-step rows windows v now w rise true is =
      subst (λ (z : ℤ). followed z (those (box_at windows z) rows) (window_changes rows v (box_at windows v) now) ≡ those now rows) (sym (eq_from w v is))
      (own-window v (box_at windows v) now rows rise)
  window-step rows windows v now w rise false is = others v (box_at windows v) now w (those (box_at windows w) rows) rows is

  -- ---- one edit, and all
  one-edit : (l : LiveLists D) (edit : Edit) (w : ℤ) → Rises id_of l.rows → Rises id_of l.windows → followed w (seen l w) (edited l edit).changes ≡ seen (edited l edit) w
  one-edit l (row id now) w rise window_rise = row-step l.rows l.windows id now w rise window_rise (stays (box_at l.rows id) now) refl
  one-edit l (window v now) w rise window_rise =
      window-step l.rows l.windows v now w rise (int_eq w v) refl ∙ ap (λ (o : Option (List Interval)). those o l.rows) (sym (box_at-with_box l.windows v now w))

  rows-rise : (l : LiveLists D) (edit : Edit) → Rises id_of l.rows → Rises id_of (edited l edit).rows
  rows-rise l (row id now) rise = rises-with_box l.rows id now rise
  rows-rise l (window v now) rise = rise

  windows-rise : (l : LiveLists D) (edit : Edit) → Rises id_of l.windows → Rises id_of (edited l edit).windows
  windows-rise l (row id now) rise = rise
  windows-rise l (window v now) rise = rises-with_box l.windows v now rise

  all-edits : (edits : List Edit) (l : LiveLists D) (w : ℤ) → Rises id_of l.rows → Rises id_of l.windows → followed w (seen l w) (told l edits) ≡ seen (after l edits) w
  all-edits [] l w rise window_rise = refl
  all-edits (edit ∷ edits) l w rise window_rise =
      followed-append w (seen l w) (edited l edit).changes (told (edited l edit) edits)
      ∙ ap (λ (c : List ℤ). followed w c (told (edited l edit) edits)) (one-edit l edit w rise window_rise)
      ∙ all-edits edits (edited l edit) w (rows-rise l edit rise) (windows-rise l edit window_rise)

pub copies_follow : CopiesFollow
copies_follow D l edits w rising window_rising = all-edits edits l w (rises id_of l.rows rising) (rises id_of l.windows window_rising)
