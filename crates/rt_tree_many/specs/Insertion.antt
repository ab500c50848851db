-- A list of rows inserted into a tree (own).
use Rattle.std.specs.Prelude.{◌≡◌, ℕ, ◌+◌, ◌<◌, Bool, true, false, not, ◌||◌, ℤ, List, [], ◌∷◌, ◌++◌, length, take, Option, None, Some, is_some, slice_get, All, count_by}
use Rattle.std.specs.List.{list_any}
use Rattle.std.specs.Ordering.{int_eq}
use Rattle.rt_check.specs.Shadow.{ShadowLists}
use Rattle.rt_tree.specs.Changes.{IsInsertion}
use Rattle.rt_tree.specs.Moving.{TakesRow}
use Rattle.rt_map.specs.Packing.{ids}
use Rattle.rt_tree.specs.Lists.{rows_of, box_of}
use Rattle.rt_tree_node.specs.Whole.{most_rows_of_a_tree}
use Rattle.rt_tree_node.specs.declared.arena.Work.{Work}
use Rattle.rt_tree_walk.specs.declared.searching.Row.{Row}
use Rattle.rt_tree_many.specs.declared.fault.RowsFault.{RowsFault}
use Rattle.rt_tree_many.specs.declared.fault.RowsFault.TheVariants.{Taken, TooMany, Memory}

-- the id is among these
abbrev pub is_among : List ℤ → ℤ → Bool
is_among those id = list_any (int_eq id) those

module _ {D : ℕ} where
  -- the tree has a row with the id
  abbrev pub has_id : ShadowLists D → ℤ → Bool
  has_id s id = is_some (box_of s id)

  -- the tree or an earlier row has the id of the row at the place
  pub record IsTaken (s : ShadowLists D) (rows : List (Row D)) (at : ℕ) : Type 0 where
    pub id : ℤ
    pub here : slice_get (ids rows) at ≡ Some id
    pub taken : (has_id s id || is_among (take at (ids rows)) id) ≡ true

  -- it is the first such place
  pub record IsFirstTaken (s : ShadowLists D) (rows : List (Row D)) (at : ℕ) : Type 0 where
    pub is : IsTaken s rows at
    pub first : (earlier : ℕ) → earlier < at → ¬ IsTaken s rows earlier

  -- there is no such place
  abbrev pub AreNew : ShadowLists D → List (Row D) → Type 0
  AreNew s rows = (at : ℕ) → ¬ IsTaken s rows at

  -- why the rows aren't inserted; want of memory says nothing of them
  abbrev pub IsFaultOf : ShadowLists D → List (Row D) → RowsFault → Type 0
  IsFaultOf s rows (Taken at) = IsFirstTaken s rows at
  IsFaultOf s rows TooMany = AreNew s rows × (most_rows_of_a_tree < length (rows_of s) + length rows)
  IsFaultOf s rows Memory = Unit {0}

  -- the rows came, and each that was there stays: as many rows pass any test as before, and those of the list beside them
  pub record GainsRows (old new : ShadowLists D) (rows : List (Row D)) : Type 0 where
    pub counted : (test : Row D → Bool) → count_by test (rows_of new) ≡ count_by test (rows_of old) + count_by test rows
    pub here : All (λ r. box_of new r.id ≡ Some r.rect) rows
    pub others : (other : ℤ) → is_among (ids rows) other ≡ false → box_of new other ≡ box_of old other

  -- the rows are inserted into the first tree one after another
  pub data InsertsInTurn (first : ShadowLists D) : List (Row D) → ShadowLists D → Type 0 where
    none : InsertsInTurn first [] first
    more : {rows : List (Row D)} {old new : ShadowLists D} (row : Row D) (work : Work) → InsertsInTurn first rows old →
        IsInsertion old new row.id row.rect work → TakesRow old new row.id row.rect work → InsertsInTurn first (rows ++ row ∷ []) new

  -- ---- how taken ids are found; no public clause cites what follows
  -- the place of the first row whose id is taken, if there is one
  abbrev pub TellsTaken : ShadowLists D → List (Row D) → Option ℕ → Type 0
  TellsTaken s rows None = AreNew s rows
  TellsTaken s rows (Some at) = IsFirstTaken s rows at

  -- the id joins those that are claimed, unless the tree or one of them has it
  pub record Claims (s : ShadowLists D) (old new : List ℤ) (id : ℤ) (is_new : Bool) : Type 0 where
    pub told : is_new ≡ not (has_id s id || is_among old id)
    pub joined : is_new ≡ true → new ≡ old ++ id ∷ []
