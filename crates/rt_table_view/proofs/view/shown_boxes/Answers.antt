use Rattle.std.proofs.Common.{◌≡◌, List, map, ap, subst, ◌∙◌}
use Rattle.std.specs.List.Sorted.{IsPermutation}
use Rattle.std.proofs.lemmas.List.{with_items_is}
use Rattle.std.proofs.lemmas.List.Sorted.{length_permutation}
use Rattle.rt_tree_walk.specs.declared.searching.Row.{Row}
use Rattle.rt_table_row.specs.Filters.{admits}
use Rattle.rt_table_store.specs.Trees.{leaf_row}
use Rattle.rt_table_view.specs.Watching.{rows_named}
use Rattle.rt_table_view.proofs.Looking.{sorted_kept}
use Rattle.rt_table_view.proofs.view.shown_boxes.Goals as goal

pub returns : goal.returns
returns g c =
    let ids = c.args.view.now.ids.keys in
    let moved : IsPermutation c.in_ok-rows.rows.items c.sort_by_id.new.rows = subst (λ (rows : List (Row g.row.D)). IsPermutation rows c.sort_by_id.new.rows) c.deref_mut.ensures.value c.sort_by_id.ensures.permutation in
    let kept = with_items_is c.in_ok-rows.rows c.sort_by_id.new.rows (length_permutation c.deref_mut.result.now c.sort_by_id.new.rows c.sort_by_id.ensures.permutation ∙ c.deref_mut.ensures.len) in
    let found : c.in_ok-rows.rows.items ≡ map leaf_row (rows_named c.args.store.now.rows ids) =
    c.in_ok-rows.ensures ∙ ap (λ named. map leaf_row (rows_named c.args.store.now.rows named)) c.as_slice.ensures.keys in
    kept
    ∙ sorted_kept c.args.store.now.rows (admits c.args.view.now.filter) ids c.facts.ensures.rising c.requires c.in_ok-rows.rows.items c.sort_by_id.new.rows
    c.are_once.ensures found moved c.sort_by_id.ensures.sorted
