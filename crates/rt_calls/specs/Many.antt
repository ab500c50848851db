-- What a call tells of many windows or points (own).
use Rattle.std.specs.Prelude.{◌≡◌, ℕ, ◌*◌, ℤ, List, length, map, take, drop, Option, Some, None}
use Rattle.std.specs.List.{AllZip}
use Rattle.rt_check.specs.Shadow.{ShadowLists}
use Rattle.rt_tree.specs.Lists.{TreeLists, rows_of}
use Rattle.rt_tree_many.specs.Parts.{HasParts, nearest_ids}
use Rattle.rt_tree_walk.specs.declared.searching.Row.{Row}
use Rattle.rt_calls.specs.Buffers.{Copies, Sized}
use Rattle.rt_calls.specs.Numbers.{ids_of, pieces}
use Rattle.rt_calls.specs.Relations.{FindsRelated, IsNumberOfRelation}
use Rattle.rt_calls.specs.declared.code.Code.{Code}
use Rattle.rt_calls.specs.declared.code.Code.TheVariants.{Done, BufferTooSmall, OutOfMemory, BadLength, BadRelation}
use Rattle.rt_calls.specs.declared.relation.Relation.{Relation}

-- All ids are in the one buffer, and in the other the place at which those of each question begin; how many ids there are is told. Or
-- there is no room for them all, and both buffers are as before; or no memory is left.
abbrev pub GivesParts : List ℤ → List ℕ → List ℕ → List ℕ → List ℤ → List ℤ → ℕ → ℕ → Code → Type 0
GivesParts all begin starts new_starts ids new_ids told total OutOfMemory = (new_starts ≡ starts) × (new_ids ≡ ids) × (total ≡ told)
GivesParts all begin starts new_starts ids new_ids told total BufferTooSmall =
    (total ≡ length all) × (new_starts ≡ starts) × Copies all ids new_ids BufferTooSmall
GivesParts all begin starts new_starts ids new_ids told total code =
    (total ≡ length all) × Copies begin starts new_starts code × Copies all ids new_ids code

module _ {D : ℕ} where
  -- the ids are those of the rows that lie so to the window, whose least numbers come first
  abbrev pub AreRelated : Relation → ShadowLists D → List ℤ → List ℤ → Type 0
  AreRelated relation s window part =
      (rows : List (Row D)) × FindsRelated relation s (take D window) (drop D window) rows × (part ≡ ids_of rows)

  -- the number is that of those rows
  abbrev pub IsRelatedCount : Relation → ShadowLists D → List ℤ → ℕ → Type 0
  IsRelatedCount relation s window count =
      (rows : List (Row D)) × FindsRelated relation s (take D window) (drop D window) rows × (count ≡ length rows)

  -- for each window the ids of the rows that lie so to it, one window after another; or no memory is left
  abbrev pub SearchesEach : List ℕ → List ℕ → List ℤ → List ℤ → ℕ → ℕ → Relation → List ℤ → TreeLists D → Code → Type 0
  SearchesEach starts new_starts ids new_ids told total relation windows tree OutOfMemory =
      (new_starts ≡ starts) × (new_ids ≡ ids) × (total ≡ told)
  SearchesEach starts new_starts ids new_ids told total relation windows tree code =
      (parts : List (List ℤ)) × AllZip (AreRelated relation tree.lists) (pieces (2 * D) (length starts) windows) parts ×
      (all : List ℤ) × (begin : List ℕ) × HasParts parts all begin × GivesParts all begin starts new_starts ids new_ids told total code

  -- for each window the number of such rows; or no memory is left
  abbrev pub CountsEach : List ℕ → List ℕ → Relation → List ℤ → TreeLists D → Code → Type 0
  CountsEach counts new_counts relation windows tree Done =
      AllZip (IsRelatedCount relation tree.lists) (pieces (2 * D) (length counts) windows) new_counts
  CountsEach counts new_counts relation windows tree OutOfMemory = new_counts ≡ counts
  CountsEach counts new_counts relation windows tree code = ⊥

  -- of the number of a relation and the numbers of n windows the call says this; or the number is that of no relation; or they
  -- are more or fewer than the tree's axes ask for
  abbrev pub OfEachRelation : Option Relation → ℕ → List ℤ → (Relation → List ℤ → TreeLists D → Code → Type 0) → TreeLists D → Code → Type 0
  OfEachRelation None count numbers says tree code = code ≡ BadRelation
  OfEachRelation (Some relation) count numbers says tree code =
      Sized (length numbers) (count * (2 * D)) (says relation numbers tree code) (code ≡ BadLength)

  abbrev pub OfWindows : ℕ → ℕ → List ℤ → (Relation → List ℤ → TreeLists D → Code → Type 0) → TreeLists D → Code → Type 0
  OfWindows number count numbers says tree code =
      (relation : Option Relation) × IsNumberOfRelation number relation × OfEachRelation relation count numbers says tree code

  -- for each point the ids of the rows nearest to it, in their order, one point after another; or no memory is left
  abbrev pub FindsEach : ℕ → List ℕ → List ℕ → List ℤ → List ℤ → ℕ → ℕ → List ℤ → TreeLists D → Code → Type 0
  FindsEach k starts new_starts ids new_ids told total points tree OutOfMemory =
      (new_starts ≡ starts) × (new_ids ≡ ids) × (total ≡ told)
  FindsEach k starts new_starts ids new_ids told total points tree code = (all : List ℤ) × (begin : List ℕ) ×
      HasParts (map (nearest_ids k (rows_of tree.lists)) (pieces D (length starts) points)) all begin ×
      GivesParts all begin starts new_starts ids new_ids told total code

  -- if there is a point for each start; else a length is wrong
  abbrev pub FindsNearestMany : ℕ → List ℕ → List ℕ → List ℤ → List ℤ → ℕ → ℕ → List ℤ → TreeLists D → Code → Type 0
  FindsNearestMany k starts new_starts ids new_ids told total points tree code = Sized (length points) (length starts * D)
      (FindsEach k starts new_starts ids new_ids told total points tree code) (code ≡ BadLength)
