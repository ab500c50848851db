use Rattle.std.proofs.Common.{ℤ, List, map, ap, subst, ◌∙◌}
use Rattle.std.specs.Prelude.{IsPermutation}
use Rattle.rt_tree_walk.specs.declared.searching.Row.{Row}
use Rattle.rt_table_store.proofs.Found.{ids_picked}
use Rattle.rt_table_store.proofs.store.Store.ids_by_window.Goals as goal

pub returns : goal.returns
returns g c =
    let ids = c.in_ok-ids.ids.items in
    let sorted = c.in_ok-sorted.sorted.items in
    ids_picked c.args.self.now.rows c.args.self.now.tree c.facts.ensures.rising c.facts.ensures.stands c.args.condition.now c.in_ok-found.found.rows.items c.in_ok-found.ensures.rows
    sorted (subst (λ (zs : List ℤ). IsPermutation zs sorted) (c.in_ok-ids.ensures ∙ ap (map (λ (r : Row g.row.D). r.id)) c.as_slice.ensures.value) c.in_ok-sorted.ensures.permutation) c.in_ok-sorted.ensures.sorted
