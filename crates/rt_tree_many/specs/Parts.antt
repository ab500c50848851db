-- Several answers as one list: one part after another, and where each begins (own).
use Rattle.std.specs.Prelude.{◌≡◌, ℕ, ◌+◌, Bool, ℤ, List, [], ◌∷◌, ◌++◌, length, map, All, count_by}
use Rattle.std.specs.List.{AllZip, flat_map}
use Rattle.rt_box.specs.declared.interval.Interval.{Interval}
use Rattle.rt_box.specs.Window.{Admits}
use Rattle.rt_check.specs.Shadow.{ShadowLists}
use Rattle.rt_map.specs.Packing.{ids}
use Rattle.rt_tree.specs.Lists.{rows_of}
use Rattle.rt_tree_nearest.specs.Nearest.{nearest_rows}
use Rattle.rt_tree_walk.specs.Search.{AsksAdmitted}
use Rattle.rt_tree_walk.specs.declared.searching.Row.{Row}
use Rattle.rt_tree_many.specs.declared.parts.FoundMany.{FoundMany}

-- where each part begins, if the first does at a place
abbrev pub starts_from : ℕ → List (List ℤ) → List ℕ
starts_from place [] = []
starts_from place (part ∷ parts) = place ∷ starts_from (place + length part) parts

-- the list is the parts joined end to end, and the starts say where each begins
pub record HasParts (parts : List (List ℤ)) (all : List ℤ) (starts : List ℕ) : Type 0 where
  pub joined : all ≡ flat_map (λ part. part) parts
  pub begin : starts ≡ starts_from 0 parts

-- one part more
pub record AddsPart (part : List ℤ) (old new : FoundMany) : Type 0 where
  pub ids_are : new.ids.items ≡ old.ids.items ++ part
  pub starts_are : new.starts.items ≡ old.starts.items ++ length old.ids.items ∷ []

module _ {D : ℕ} where
  -- the ids of exactly the rows that the window admits, each as often as it is in the tree
  pub record FindsIds (s : ShadowLists D) (window : List Interval) (found : List ℤ) : Type 0 where
    pub rows : List (Row D)
    pub admitted : All (λ r. Admits window r.rect) rows
    pub each : (test : Row D → Bool) → AsksAdmitted window test → count_by test rows ≡ count_by test (rows_of s)
    pub ids_are : found ≡ ids rows

  -- the parts are what the windows find
  pub record FindsMany (s : ShadowLists D) (windows : List (List Interval)) (all : List ℤ) (starts : List ℕ) : Type 0 where
    pub parts : List (List ℤ)
    pub has : HasParts parts all starts
    pub finds : AllZip (FindsIds s) windows parts

  -- the ids of the rows nearest to a point, in the order of their distances
  abbrev pub nearest_ids : ℕ → List (Row D) → List ℤ → List ℤ
  nearest_ids k rows point = ids (nearest_rows point k rows)

  -- the parts are the ids of the rows nearest to each point
  abbrev pub FindsNearest : ShadowLists D → ℕ → List (List ℤ) → List ℤ → List ℕ → Type 0
  FindsNearest s k points all starts = HasParts (map (nearest_ids k (rows_of s)) points) all starts
