-- A table that was made ready for a plan.
use Rattle.std.proofs.Common.{◌≡◌, ℕ, ◌≤◌, List, map, sym, subst}
use Rattle.std.specs.List.{All}
use Rattle.rt_check.specs.Shadow.{ShadowLists}
use Rattle.rt_table_row.specs.Columns.{Columns}
use Rattle.rt_table_row.specs.Rows.{TableRow}
use Rattle.rt_table_row.specs.Edits.{Step, outcome}
use Rattle.rt_table_row.specs.Views.{View, ViewChange, deltas}
use Rattle.rt_table_view.specs.declared.view.Watched.{Watched}
use Rattle.rt_table_view.specs.Watching.{Awaited, view_of, awaited_of}
use Rattle.rt_table_step.specs.Steps.{ApplyTo, inserts_all, auxiliary_rows_all}
use Rattle.rt_table_view.specs.Preparing.{IsAwaited}
use Rattle.rt_table.specs.Held.{Held}
use Rattle.rt_table.specs.Ready.{IsReady}

abbrev made : {D : ℕ} → Columns → List TableRow → ShadowLists D → List View → ℕ → ℕ → List Awaited → List ViewChange → Held D
made columns rows tree views room auxiliary_room awaited changes = record {
  lists = record { columns = columns; rows = rows; views = views };
  tree = tree;
  room = room;
  auxiliary_room = auxiliary_room;
  awaited = awaited;
  staged = changes;
}

pub ready : {D : ℕ} (columns : Columns) (rows now : List TableRow) (tree : ShadowLists D) (views new : List Watched) (room auxiliary_room : ℕ) (changes : List ViewChange) (steps : List Step) → now ≡ rows
    → map view_of new ≡ map view_of views → ApplyTo columns rows steps → inserts_all steps ≤ room → auxiliary_rows_all steps ≤ auxiliary_room
    → All (IsAwaited columns rows (outcome rows steps)) (map awaited_of new)
    → changes ≡ deltas columns (map view_of views) rows (outcome rows steps)
    → IsReady (made columns now tree (map view_of new) room auxiliary_room (map awaited_of new) changes) steps
ready columns rows now tree views new room auxiliary_room changes steps same_rows same_views apply fits auxiliary_rows_fit awaited staged =
    subst (λ (rs : List TableRow). IsReady (made columns rs tree (map view_of new) room auxiliary_room (map awaited_of new) changes) steps) (sym same_rows)
    (subst (λ (vs : List View). IsReady (made columns rows tree vs room auxiliary_room (map awaited_of new) changes) steps) (sym same_views)
    (record {
      apply = apply;
      room = fits;
      auxiliary_room = auxiliary_rows_fit;
      awaited = awaited;
      staged = staged;
    }))
