-- How the box of a row may lie to a window, said of their points (own: both ends belong to a box). A point is a list of whole
-- numbers, one for each axis.
use Rattle.std.specs.Prelude.{◌≡◌, ℕ, ◌≤◌, ℤ, ◌≤ℤ◌, List, [], ◌∷◌, Bool, count_by, Option, Some, None}
use Rattle.std.specs.List.{AllZip}
use Rattle.rt_box.specs.declared.interval.Interval.{Interval}
use Rattle.rt_box.specs.Rect.{los, his}
use Rattle.rt_check.specs.Shadow.{ShadowLists}
use Rattle.rt_tree.specs.Lists.{rows_of}
use Rattle.rt_tree_walk.specs.declared.searching.Row.{Row}
use Rattle.rt_calls.specs.declared.relation.Relation.{Relation}
use Rattle.rt_calls.specs.declared.relation.Relation.TheVariants.{Touches, Within, Holds}

-- the point lies in the box from min to max
abbrev pub LiesIn : List ℤ → List ℤ → List ℤ → Type 0
LiesIn min max point = AllZip ◌≤ℤ◌ min point × AllZip ◌≤ℤ◌ point max

-- and in the box of a row: in each of its intervals
abbrev pub LiesInBox : List Interval → List ℤ → Type 0
LiesInBox rect point = LiesIn (los rect) (his rect) point

-- some point lies in the window and in the row's box
pub record HasCommonPoint (min max : List ℤ) (rect : List Interval) : Type 0 where
  pub point : List ℤ
  pub here : LiesIn min max point
  pub there : LiesInBox rect point

-- the row's box and the window have a point in common; each point of the row's box lies in the window; each point of the
-- window lies in the row's box
abbrev pub Relates : Relation → List ℤ → List ℤ → List Interval → Type 0
Relates Touches min max rect = HasCommonPoint min max rect
Relates Within min max rect = (point : List ℤ) → LiesInBox rect point → LiesIn min max point
Relates Holds min max rect = (point : List ℤ) → LiesIn min max point → LiesInBox rect point

abbrev pub number_of_relation : Relation → ℕ
number_of_relation Touches = 0
number_of_relation Within = 1
number_of_relation Holds = 2

-- the number is that of the relation, or of none
abbrev pub IsNumberOfRelation : ℕ → Option Relation → Type 0
IsNumberOfRelation number (Some relation) = number ≡ number_of_relation relation
IsNumberOfRelation number None = 3 ≤ number

-- of the elements those are picked of which this holds, in their order
pub data Picks {X : Type 0} (holds : X → Type 0) : List X → List X → Type 0 where
  none : Picks holds [] []
  this : {x : X} {xs picked : List X} → holds x → Picks holds xs picked → Picks holds (x ∷ xs) (x ∷ picked)
  other : {x : X} {xs picked : List X} → (holds x → ⊥) → Picks holds xs picked → Picks holds (x ∷ xs) picked

module _ {D : ℕ} where
  -- of the tree's rows those whose boxes lie so to the window from min to max, in whatever order
  pub record FindsRelated (relation : Relation) (s : ShadowLists D) (min max : List ℤ) (rows : List (Row D)) : Type 0 where
    pub picked : List (Row D)
    pub picks : Picks (λ r. Relates relation min max r.rect) (rows_of s) picked
    pub same : (test : Row D → Bool) → count_by test rows ≡ count_by test picked
