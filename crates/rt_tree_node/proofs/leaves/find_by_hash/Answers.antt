use Rattle.std.proofs.Common.{◌≡◌, ℤ, Some, ap, sym, ◌∙◌, rules}
use Rattle.std.specs.Ordering.{int_eq}
use Rattle.std.proofs.lemmas.Bool.Decides.{Decides-int_eq}
use Rattle.std.proofs.lemmas.Map.Made.{lookup_key_passes}
use Rattle.indexmap.specs.IndexMap.{get_key}
use Rattle.rt_tree_node.proofs.leaves.find_by_hash.Goals as goal

pub returns-clause-entry : goal.returns-clause-entry
returns-clause-entry c =
    let key : ℤ = c.in_ok-index.field-0-1.now in
    let stored : get_key int_eq c.args.leaves.now c.args.id.now ≡ Some key = search rules in
    let same : c.args.id.now ≡ key = (Decides-int_eq c.args.id.now key).0 (lookup_key_passes (int_eq c.args.id.now) c.args.leaves.now.entries key stored) in
    c.in_ok-index.ensures.entry ∙ ap (λ (z : ℤ). Some (z, c.in_ok-index.leaf.now)) (sym same)
