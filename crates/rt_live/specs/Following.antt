-- A copy of the rows that a window sees, which follows the changes. Source: own.
use Rattle.std.specs.Prelude.{◌≡◌, ℕ, ℤ, not, int_lt, List, [], ◌∷◌, ◌++◌, Option, filter, if◌then◌else◌}
use Rattle.std.specs.Ordering.{int_eq}
use Rattle.rt_box.specs.declared.interval.Interval.{Interval}
use Rattle.rt_live.specs.declared.change.Kind.{Kind}
use Rattle.rt_live.specs.declared.change.Kind.TheVariants.{Left, Came, Moved}
use Rattle.rt_live.specs.declared.change.Change.{Change}
use Rattle.rt_live.specs.Rows.{AreRising}
use Rattle.rt_live.specs.Live.{LiveLists, with_row, with_window, seen}

-- a copy of the ids that a window sees: an id that comes stands at its place, one that leaves is no longer there
abbrev pub after_kind : List ℤ → ℤ → Kind → List ℤ
after_kind copy id Left = filter (λ x. not (int_eq id x)) copy
after_kind copy id Came = filter (λ x. int_lt x id) copy ++ id ∷ filter (λ x. int_lt id x) copy
after_kind copy id Moved = copy

-- the copy of a window follows the changes that the window is told, and passes over the others
abbrev pub followed : ℤ → List ℤ → List Change → List ℤ
followed window copy [] = copy
followed window copy (c ∷ changes) = followed window (if int_eq window c.window then after_kind copy c.id c.kind else copy) changes

-- a row or a window gets a box, or loses the one it had
pub data Edit : Type 0 where
  row : (id : ℤ) → Option (List Interval) → Edit
  window : (id : ℤ) → Option (List Interval) → Edit

module _ {D : ℕ} where
  abbrev pub edited : LiveLists D → Edit → LiveLists D
  edited l (row id is) = with_row l id is
  edited l (window id is) = with_window l id is

  -- what is left of the edits, one after another, and all that they tell
  abbrev pub after : LiveLists D → List Edit → LiveLists D
  after l [] = l
  after l (edit ∷ edits) = after (edited l edit) edits

  abbrev pub told : LiveLists D → List Edit → List Change
  told l [] = []
  told l (edit ∷ edits) = (edited l edit).changes ++ told (edited l edit) edits

-- Whatever edits come, the copy of each window that follows the changes is what the window sees.
abbrev pub CopiesFollow : Type 0
CopiesFollow =
    (D : ℕ) (l : LiveLists D) (edits : List Edit) (w : ℤ) → AreRising l.rows → AreRising l.windows
    → followed w (seen l w) (told l edits) ≡ seen (after l edits) w
