use Rattle.std.proofs.Common.{◌≡◌, ℕ, List, Some, ap, ◌∙◌, sym, subst}
use Rattle.slab.specs.Slab.{get}
use Rattle.rt_tree_node.specs.Sums.{total, Learns}
use Rattle.rt_tree_node.proofs.Summed.{learned}
use Rattle.rt_tree_node.proofs.summing.learn_one.Goals as goal

pub returns : goal.returns
returns g c done =
    let a = c.args.slab.now in
    let sums = c.args.sums.now.items in
    let key = c.args.key in
    let n = c.in-Some.node.now in
    let here : get a key ≡ Some n = ap (get a) (sym c.index.ensures) ∙ sym c.in-Some.ensures in
    let rows : c.in-Some-total_of.rows ≡ total sums n = c.in-Some-total_of.ensures ∙ ap (λ (xs : List ℕ). total xs n) c.as_slice.ensures.value in
    subst (λ (xs : List ℕ). Learns a sums xs c.args.level key) (sym (c.write.ensures.written done))
    (learned a c.requires.joined.root c.requires.joined.level c.requires.joined.linked sums key c.args.level c.in-Some-total_of.rows n here
    (sym c.level.ensures ∙ c.if-level.false) rows (c.write.ensures.place done) c.requires.lower)
