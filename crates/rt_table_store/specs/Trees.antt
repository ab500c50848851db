-- The trees of a table's rows, and how one follows its rows (own): it takes the steps of a statement one after the other,
-- each as the tree's insertion and removal make it.
use Rattle.std.specs.Prelude.{◌≡◌, ℕ, Bool, List, map, count_by, ℤ, true, false, ◌&&◌, [], ◌∷◌}
use Rattle.rt_check.specs.Shadow.{ShadowLists}
use Rattle.rt_tree_walk.specs.declared.searching.Row.{Row}
use Rattle.rt_tree.specs.Lists.{IsInShape, rows_of}
use Rattle.rt_table_row.specs.Rows.{TableRow, row_at, without_id}
use Rattle.std.specs.Option.{option_map_or}
use Rattle.std.specs.Ordering.{int_eq}
use Rattle.std.specs.Cmp.Lexicographic.{pointwise}
use Rattle.rt_box.specs.declared.interval.Interval.{Interval}
use Rattle.rt_box.specs.Rect.{coordinates}
use Rattle.rt_tree_node.specs.declared.arena.Work.{Work}
use Rattle.rt_tree.specs.Changes.{IsInsertion, IsRemoval}
use Rattle.rt_table_row.specs.Edits.{Step, Leaves, Comes, Becomes, after_step, outcome}

module _ {D : ℕ} where
  -- a table's row as a tree has it
  abbrev pub leaf_row : TableRow → Row D
  leaf_row row = record { id = row.id; rect = row.box }

  -- the checker finds no problem in the tree, it is in preorder with entries by rising id, and it has these rows, each
  -- once, and no other
  pub record IsTreeOf (rows : List TableRow) (tree : ShadowLists D) : Type 0 where
    pub shape : IsInShape tree
    pub each : (test : Row D → Bool) → count_by test (rows_of tree) ≡ count_by test (map leaf_row rows)

abbrev pub same_box : List Interval → List Interval → Bool
same_box a b = pointwise int_eq (coordinates a) (coordinates b)

-- the row has the id that it takes the place of, and the box that is there
abbrev pub stays : List TableRow → ℤ → TableRow → Bool
stays rows id row = int_eq id row.id && option_map_or (λ old. same_box old.box row.box) (row_at rows id) false

module _ {D : ℕ} where
  -- the tree gained a row by an insertion
  abbrev pub Gains : TableRow → ShadowLists D → ShadowLists D → Type 0
  Gains row old new = (work : Work) × IsInsertion old new row.id row.box work

  -- the tree lost the row of an id by a removal
  abbrev pub Loses : ℤ → ShadowLists D → ShadowLists D → Type 0
  Loses id old new = (rect : List Interval) × IsRemoval old new id rect

  -- a row replaces the one of an id: that one left, and then it came
  abbrev pub Replaces : List TableRow → ℤ → TableRow → ShadowLists D → ShadowLists D → Type 0
  Replaces rows id row old new =
      (between : ShadowLists D) × Loses id old between × IsTreeOf (without_id rows id) between × Gains row between new

  -- A row that keeps its id and its box leaves the tree alone, whatever else of it changes.
  abbrev pub TakesStep : List TableRow → Step → ShadowLists D → ShadowLists D → Type 0
  TakesStep rows (Leaves id) old new = Loses id old new
  TakesStep rows (Comes row) old new = Gains row old new
  TakesStep rows (Becomes id row) old new =
      (stays rows id row ≡ true → new ≡ old) × (stays rows id row ≡ false → Replaces rows id row old new)

  -- one step after the other; between two of them the tree is one of the rows that are there then
  abbrev pub TakesEach : List TableRow → List Step → ShadowLists D → ShadowLists D → Type 0
  TakesEach rows [] old new = new ≡ old
  TakesEach rows (step ∷ steps) old new =
      (next : ShadowLists D) × TakesStep rows step old next × IsTreeOf (after_step rows step) next × TakesEach (after_step rows step) steps next new

  -- a tree of the rows before follows the steps
  pub record FollowsSteps (rows : List TableRow) (steps : List Step) (old new : ShadowLists D) : Type 0 where
    pub stands : IsTreeOf (outcome rows steps) new
    pub takes : TakesEach rows steps old new
    pub capacity : new.capacity ≡ old.capacity
