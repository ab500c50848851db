use Rattle.std.proofs.Common.{◌≡◌, ℤ, FitsSigned, to_z, of_z, w64, not, rules, ap, sym, ◌∙◌}
use Rattle.std.specs.Ordering.{int_eq}
use Rattle.std.proofs.lemmas.Int.{to_z-of_z}
use Rattle.indexmap.specs.IndexSet.{insert_key}
use Rattle.rt_tree_many.specs.Insertion.{is_among}
use Rattle.rt_tree_many.proofs.Claimed.{claims-held, claims-free}
use Rattle.rt_tree_many.proofs.insertion.claim.Goals as goal

pub returns-then-contains : goal.returns-then-contains
returns-then-contains g c =
    let old = c.args.claimed.now.keys in
    claims-held c.args.tree.now.lists old old c.args.id.now (sym c.contains.ensures ∙ c.if-contains.true)

pub returns-in-Ok : goal.returns-in-Ok
returns-in-Ok g c =
    let old = c.args.claimed.now.keys in
    let id = c.args.id.now in
    let fits : FitsSigned w64 id = search rules in
    let same : to_z w64 (of_z w64 id) ≡ id = to_z-of_z w64 id fits in
    claims-free c.args.tree.now.lists old c.insert.new.self.keys id c.in-Ok.is_new (sym c.contains.ensures ∙ c.if-contains.false)
    (c.in-Ok.ensures.added ∙ ap (λ (z : ℤ). not (is_among old z)) same) (c.in-Ok.ensures.keys ∙ ap (λ (z : ℤ). insert_key int_eq old z) same)
