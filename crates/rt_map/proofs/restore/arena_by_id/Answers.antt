use Rattle.std.proofs.Common.{◌≡◌, ◌≤◌, length, arith, rules, sym, subst}
use Rattle.std.proofs.lemmas.List.Sorted.{length_permutation}
use Rattle.rt_tree_node.specs.Whole.{most_rows_of_a_tree}
use Rattle.rt_map.specs.PackingInside.{IsReadyFor}
use Rattle.rt_map.proofs.Permuted.{ready-permuted}
use Rattle.rt_map.proofs.restore.arena_by_id.Goals as goal

pub ready_arena-requires : goal.ready_arena-requires
ready_arena-requires g c =
    let some = c.requires.some in
    let few = c.requires.few in
    let long : length c.in_ok-sorted.sorted.items ≡ length c.args.rows.now = length_permutation _ _ c.in_ok-sorted.ensures in
    let most : length c.deref.result.now ≤ most_rows_of_a_tree = subst (λ xs. length xs ≤ most_rows_of_a_tree) (sym c.deref.ensures.value) (omega (arith, c.requires.most, long)) in
    search rules

pub returns-in-Ok-clause-arena : goal.returns-in-Ok-clause-arena
returns-in-Ok-clause-arena g c =
    ready-permuted c.in-Ok.arena c.args.capacity c.args.rows.now c.in_ok-sorted.sorted.items c.in_ok-sorted.ensures
    (subst (IsReadyFor c.in-Ok.arena c.args.capacity) c.deref.ensures.value c.in-Ok.ensures.arena)
