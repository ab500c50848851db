-- What a row that gets another box makes of a tree (own).
use Rattle.std.specs.Prelude.{◌≡◌, ◌≢◌, ℕ, ℤ, List, Some}
use Rattle.rt_box.specs.declared.interval.Interval.{Interval}
use Rattle.rt_check.specs.Shadow.{ShadowLists}
use Rattle.rt_tree_node.specs.declared.arena.Work.{Work}
use Rattle.rt_tree.specs.Lists.{IsInShape, box_of, GainsRow, LosesRow}
use Rattle.rt_tree.specs.Changes.{IsInsertion, IsRemoval}
use Rattle.rt_tree.specs.Moving.{TakesRow, DropsRow}

module _ {D : ℕ} where
  -- a row gets another box: it is taken out, and taken again with that box
  pub record IsReplacement (old new : ShadowLists D) (id : ℤ) (rect : List Interval) : Type 0 where
    pub was : List Interval
    pub between : ShadowLists D
    pub shape : IsInShape between
    pub capacity : between.capacity ≡ old.capacity
    pub loses : LosesRow old between id was
    pub removal : IsRemoval old between id was
    pub drops : DropsRow old between id was
    pub work : Work
    pub gains : GainsRow between new id rect
    pub insertion : IsInsertion between new id rect work
    pub takes : TakesRow between new id rect work

  -- a row that has another box gets this one
  abbrev pub ReplacesOther : ShadowLists D → ShadowLists D → ℤ → List Interval → Type 0
  ReplacesOther old new id rect = box_of old id ≢ Some rect → IsReplacement old new id rect
