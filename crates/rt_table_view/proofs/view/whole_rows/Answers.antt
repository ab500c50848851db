use Rattle.std.proofs.Common.{arith, refl, lit<, ◌∙◌, ◌≡◌, Some}
use Rattle.std.specs.Option.{option_map}
use Rattle.rt_tree_walk.specs.declared.searching.Row.{Row}
use Rattle.rt_table_store.specs.Trees.{leaf_row}
use Rattle.rt_table_row.specs.Entries.{view_row}
use Rattle.rt_table_row.specs.Rows.{row_at}
use Rattle.rt_table_view.proofs.Picking.{found_more}
use Rattle.rt_table_view.proofs.view.whole_rows.Goals as goal

pub view-requires : goal.view-requires
view-requires g c =
    let here : option_map leaf_row (row_at c.args.store.now.rows c.row-item.result.id) ≡ Some c.row-item.result =
    rw (← c.row-item.is) at (c.requires c.loop-row.row-index c.row-item.result (omega arith)) in
    (lit< tt, (omega arith, (omega arith, here)))

pub loop-row-preserved : goal.loop-row-preserved
loop-row-preserved g c =
    c.in_ok-push.ensures.ok
    ∙ found_more (λ (row : Row g.row.D). row_at c.args.store.now.rows row.id) c.args.found.now c.loop-row.row-index _ c.row-item.result (view_row c.view.result) _ (omega arith) c.row-item.is c.view.ensures
    refl c.loop-row.invariant
