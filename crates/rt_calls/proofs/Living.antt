-- What an edit of live windows did, by what it answered.
use Rattle.std.proofs.Common.{◌≡◌, ℕ, ℤ, List, length, Option, Some, None, IsSome, Result, Ok, Err, refl, sym, ap, subst, ◌∙◌}
use Rattle.rt_box.specs.declared.interval.Interval.{Interval}
use Rattle.rt_box.specs.Rect.{los, his}
use Rattle.rt_live.specs.Live.{LiveLists, LiveState}
use Rattle.rt_live.specs.Rows.{box_at}
use Rattle.rt_tree_walk.specs.declared.searching.Row.{Row}
use Rattle.rt_calls.specs.Live.{Comes, Replaces, Leaves}
use Rattle.rt_calls.specs.declared.code.Code.{Code}
use Rattle.rt_calls.specs.declared.code.Code.TheVariants.{Done}

abbrev IsDone : {X E : Type 0} → Result X E → Type 0
IsDone (Ok x) = Unit {0}
IsDone (Err e) = ⊥

-- it would be refused if something stood at the id, so nothing does
pub is_free : {X Y E : Type 0} (here : Option X) (y : Y) (taken : E) → (IsSome here → Ok y ≡ Err taken) → here ≡ None
is_free None y taken refused = refl
is_free {X} {Y} {E} (Some x) y taken refused = absurd (subst (λ (r : Result Y E). IsDone r) (refused refl) tt)

-- it would be refused if nothing stood at the id, so something does
pub is_there : {X Y E : Type 0} (here : Option X) (y : Y) (missing : E) → (here ≡ None → Ok y ≡ Err missing) → IsSome here
is_there {X} {Y} {E} None y missing refused = absurd (subst (λ (r : Result Y E). IsDone r) (refused refl) tt)
is_there (Some x) y missing refused = refl

-- The id that an answer speaks of is the one that was given.
module _ {D : ℕ} (there : List (Row D)) (given id : ℤ) (same : given ≡ id) (with_box : ℤ → Option (List Interval) → LiveLists D) (changes : ℕ) (old new : LiveState D) (code : Code) where
  pub came : (min max : List ℤ) (rect : List Interval) → los rect ≡ min → his rect ≡ max → box_at there given ≡ None → new.lists ≡ with_box given (Some rect) →
      changes ≡ length new.lists.changes → code ≡ Done → Comes there id (with_box id) changes min max old new code
  came min max rect lo hi free made told done =
      subst (λ i. Comes there i (with_box i) changes min max old new code) same
      (subst (λ k. Comes there given (with_box given) changes min max old new k) (sym done)
      (rect, lo, hi, free, (made, told ∙ ap (λ (l : LiveLists D). length l.changes) made)))

  pub replaced : (min max : List ℤ) (rect : List Interval) → los rect ≡ min → his rect ≡ max → IsSome (box_at there given) → new.lists ≡ with_box given (Some rect) →
      changes ≡ length new.lists.changes → code ≡ Done → Replaces there id (with_box id) changes min max old new code
  replaced min max rect lo hi here made told done =
      subst (λ i. Replaces there i (with_box i) changes min max old new code) same
      (subst (λ k. Replaces there given (with_box given) changes min max old new k) (sym done)
      (rect, lo, hi, here, (made, told ∙ ap (λ (l : LiveLists D). length l.changes) made)))

  pub left : IsSome (box_at there given) → new.lists ≡ with_box given None → changes ≡ length new.lists.changes → code ≡ Done →
      Leaves there id (with_box id) changes old new code
  left here made told done =
      subst (λ i. Leaves there i (with_box i) changes old new code) same
      (subst (λ k. Leaves there given (with_box given) changes old new k) (sym done)
      (here, (made, told ∙ ap (λ (l : LiveLists D). length l.changes) made)))
