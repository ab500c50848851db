use Rattle.std.proofs.Common.{ap, sym, ◌∙◌, is_some, true≢false}
use Rattle.std.proofs.lemmas.Option.{slice_get_within}
use Rattle.rt_tree_node.proofs.Homes.{moved-at}
use Rattle.rt_tree_node.proofs.leaves.set_leaf.Goals as goal

pub returns-in-Some-get_index_mut : goal.returns-in-Some-get_index_mut
returns-in-Some-get_index_mut c =
    moved-at c.args.leaves.now c.in-Some.index c.args.id.now c.args.leaf c.in-Some.field-0-1 c.get_index_mut.ensures.unique c.in-Some.ensures.entry

-- the index is one of the map's
pub returns-in_default-get_index_mut : goal.returns-in_default-get_index_mut
returns-in_default-get_index_mut c =
    let within = slice_get_within c.args.leaves.now.entries c.in-Some.index _ c.in-Some.ensures.entry in
    let there = c.get_index_mut.ensures.found.1 within in
    absurd (true≢false (sym (ap is_some (sym c.in_default-get_index_mut.is) ∙ there)))
