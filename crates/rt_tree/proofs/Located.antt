-- What `find_row` found.
use Rattle.std.proofs.Common.{◌≡◌, ℕ, ℤ, Option, Some, None, IsSome, IfNone, MatchOption, refl, sym, ap, ◌∙◌, subst}
use Rattle.std.specs.Ordering.{int_eq}
use Rattle.std.specs.Prelude.{is_some}
use Rattle.std.proofs.lemmas.Bool.{true≢false}
use Rattle.std.proofs.lemmas.Option.{slice_get_within, get_or_from_slice_get}
use Rattle.indexmap.specs.IndexMap.{get as leaf_of}
use Rattle.rt_tree_node.specs.declared.arena.Arena.{Arena}
use Rattle.rt_tree_node.specs.declared.cell.Cell.{Cell}
use Rattle.rt_tree_node.specs.Places.{cells_at}
use Rattle.rt_tree_remove.specs.declared.location.Location.{Location}
use Rattle.rt_tree_remove.specs.Steps.{IsLocationOf}
use Rattle.rt_tree_outside.specs.Outside.{outside}
use Rattle.rt_tree_walk.proofs.Progress.{IsSettled}
use Rattle.rt_tree.specs.Lists.{box_of}
use Rattle.rt_tree.proofs.Rows.{box-none, box-there}

-- a row that has a box is taken
pub taken : {A B : Type 0} (found : Option A) (box : Option B) → IsSome box → IfNone found (box ≡ None) → IsSome found
taken None box some none = absurd (true≢false (sym some ∙ ap is_some none))
taken (Some found) box some none = refl

module _ {D : ℕ} (t : Arena D) (s : IsSettled t) (id : ℤ) where
  -- the location of the row, or none where no row has the id
  abbrev pub IsFound : Option (Location D) → Type 0
  IsFound found = MatchOption found (leaf_of int_eq t.leaves id ≡ None) (IsLocationOf t id)

  -- the box of the row that was found
  pub found-box : (location : Location D) → IsLocationOf t id location → box_of (outside t) id ≡ Some location.rect
  found-box location is =
      let row : Cell D = record { number = id; rect = location.rect } in
      let cells = cells_at t.nodes location.leaf in
      box-there t s id location.leaf is.home row (location.at, slice_get_within cells location.at row is.cell, get_or_from_slice_get cells location.at row row is.cell) refl

  -- a row that has a box is found
  pub found-some : (found : Option (Location D)) → IsFound found → IsSome (box_of (outside t) id) → IsSome found
  found-some None none some = absurd (true≢false (sym some ∙ ap is_some (box-none t s id none)))
  found-some (Some location) is some = refl

  -- it lies where it was found
  pub found-there : (found : Option (Location D)) (location : Location D) → IsFound found → found ≡ Some location → IsLocationOf t id location
  found-there found location is same = subst IsFound same is
