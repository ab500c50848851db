use Rattle.std.proofs.Common.{◌≡◌, ◌∙◌, ◌++◌, [], List, ap, sym, subst}
use Rattle.std.specs.Prelude.{IsPermutation, filter}
use Rattle.std.proofs.lemmas.List.{with_items_is}
use Rattle.std.proofs.lemmas.List.Sorted.{length_permutation}
use Rattle.rt_tree_walk.specs.declared.searching.Row.{Row}
use Rattle.rt_tree.specs.Lists.{rows_of}
use Rattle.rt_live.specs.Finding.{is_told, Appends}
use Rattle.rt_live.proofs.Found.{found-sorted, told-kept}
use Rattle.rt_live.proofs.finding.find_told.Goals as goal

pub returns-clause-rows : goal.returns-clause-rows
returns-clause-rows g c =
    let s = c.args.tree.now.lists in
    let was = c.args.was.now in
    let is = c.args.is.now in
    let last = c.search_hull.new.scratch.last.items in
    let found = c.push_rows_told.new.found in
    let is_kept : found.items ≡ filter (is_told was is) last =
    c.in_ok-push_rows_told.ensures.rows
    ∙ ap (λ (rows : List (Row g.row.D)). rows ++ filter (is_told was is) c.as_slice.result.now) c.clear.ensures.items
    ∙ ap (λ (rows : List (Row g.row.D)). filter (is_told was is) rows) c.as_slice.ensures.value in
    let told : Appends (rows_of s) (is_told was is) [] found.items =
    subst (λ (rows : List (Row g.row.D)). Appends (rows_of s) (is_told was is) [] rows) (sym is_kept)
    (told-kept (rows_of s) last c.args.hull.now was is c.requires c.in_ok-search_hull.ensures.rows) in
    let moved : IsPermutation found.items c.sort_by_id.new.rows = subst (λ (rows : List (Row g.row.D)). IsPermutation rows c.sort_by_id.new.rows) c.deref_mut.ensures.value c.sort_by_id.ensures.permutation in
    let kept = with_items_is found c.sort_by_id.new.rows (length_permutation c.deref_mut.result.now c.sort_by_id.new.rows c.sort_by_id.ensures.permutation ∙ c.deref_mut.ensures.len) in
    kept ∙ found-sorted s c.is_in_shape.ensures (is_told was is) found.items c.sort_by_id.new.rows told moved c.sort_by_id.ensures.sorted
