use Rattle.std.proofs.Common.{◌∙◌, List, subst}
use Rattle.std.specs.Prelude.{IsPermutation}
use Rattle.std.proofs.lemmas.List.{with_items_is}
use Rattle.std.proofs.lemmas.List.Sorted.{length_permutation}
use Rattle.rt_tree_walk.specs.declared.searching.Row.{Row}
use Rattle.rt_live.specs.Finding.{touches_hull}
use Rattle.rt_live.proofs.Found.{found-sorted}
use Rattle.rt_live.proofs.finding.find_around.Goals as goal

pub returns-clause-rows : goal.returns-clause-rows
returns-clause-rows g c =
    let last = c.search_hull.new.scratch.last in
    let moved : IsPermutation last.items c.sort_by_id.new.rows = subst (λ (rows : List (Row g.row.D)). IsPermutation rows c.sort_by_id.new.rows) c.deref_mut.ensures.value c.sort_by_id.ensures.permutation in
    let kept = with_items_is last c.sort_by_id.new.rows (length_permutation c.deref_mut.result.now c.sort_by_id.new.rows c.sort_by_id.ensures.permutation ∙ c.deref_mut.ensures.len) in
    kept ∙ found-sorted c.args.tree.now.lists c.is_in_shape.ensures (touches_hull c.args.hull.now) last.items c.sort_by_id.new.rows c.in_ok-search_hull.ensures.rows moved c.sort_by_id.ensures.sorted
