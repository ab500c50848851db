use Rattle.std.proofs.Common.{List, subst, ◌∙◌}
use Rattle.std.specs.Prelude.{IsPermutation}
use Rattle.std.proofs.lemmas.List.{with_items_is}
use Rattle.std.proofs.lemmas.List.Sorted.{length_permutation}
use Rattle.rt_tree_walk.specs.declared.searching.Row.{Row}
use Rattle.rt_table_store.proofs.Found.{sorted_picked}
use Rattle.rt_table_store.proofs.store.Store.select_by_window.Goals as goal

pub returns-clause-rows : goal.returns-clause-rows
returns-clause-rows g c =
    let found = c.in_ok-found.field-0.rows in
    let moved : IsPermutation found.items c.sort_by_id.new.rows = subst (λ (rows : List (Row g.row.D)). IsPermutation rows c.sort_by_id.new.rows) c.deref_mut.ensures.value c.sort_by_id.ensures.permutation in
    let kept = with_items_is found c.sort_by_id.new.rows (length_permutation c.deref_mut.result.now c.sort_by_id.new.rows c.sort_by_id.ensures.permutation ∙ c.deref_mut.ensures.len) in
    kept ∙ sorted_picked c.args.self.now.rows c.args.self.now.tree c.facts.ensures.rising c.facts.ensures.stands c.args.condition.now found.items c.in_ok-found.ensures.rows
    c.sort_by_id.new.rows moved c.sort_by_id.ensures.sorted
