use Rattle.std.proofs.Common.{◌≡◌, ℕ, ◌+◌, Contains, Some, None, List, arith, ap, ◌∙◌, sym, subst}
use Rattle.std.proofs.lemmas.Bool.{true≢false}
use Rattle.slab.specs.Slab.{get}
use Rattle.rt_tree_node.specs.Places.{parent_of, parent_at}
use Rattle.rt_tree_node.specs.Sums.{sum_at, Misses, AddUp}
use Rattle.rt_tree_node.proofs.Summed.{risen, rises}
use Rattle.rt_tree_node.proofs.summing.raise.Goals as goal

pub returns-in-Some-parent : goal.returns-in-Some-parent
returns-in-Some-parent g c =
    let a = c.args.slab.now in
    let sums = c.args.sums.now.items in
    let key = c.args.change.key in
    let n = c.in-Some.node.now in
    let here : get a key ≡ Some n = ap (get a) (sym c.index.ensures) ∙ sym c.in-Some.ensures in
    let fresh : Contains c.args.stale.now key → ⊥ = λ there. true≢false (sym (c.is_among.ensures.1 there) ∙ c.if-is_among.false) in
    let was : c.sum_of-old.result ≡ sum_at sums key = c.sum_of-old.ensures ∙ ap (λ (xs : List ℕ). sum_at xs key) c.as_slice.ensures.value in
    let is : c.in-Some-changed.new + c.args.change.old ≡ sum_at sums key + c.args.change.new = omega (arith, c.in-Some-changed.ensures, was) in
    let up : parent_at a key ≡ Some c.in-Some-parent.key = ap parent_of here ∙ sym c.parent.ensures ∙ c.in-Some-parent.is in
    let step = rises a c.requires.joined.root c.requires.joined.level c.requires.joined.linked key sums c.args.stale.now c.args.change.old c.args.change.new
    c.requires.misses n here fresh c.in-Some-changed.new is (c.write.ensures.place c.if-not-write.false) c.in-Some-parent.key up in
    subst (λ (s : ℕ). Misses a c.write.new.sums.items c.args.stale.now (record { key = c.in-Some-parent.key; old = s; new = c.in-Some-changed.new })) (sym was)
    (subst (λ (xs : List ℕ). Misses a xs c.args.stale.now (record { key = c.in-Some-parent.key; old = sum_at sums key; new = c.in-Some-changed.new }))
    (sym (c.write.ensures.written c.if-not-write.false)) step)

pub returns-in-None : goal.returns-in-None
returns-in-None g c =
    let a = c.args.slab.now in
    let sums = c.args.sums.now.items in
    let key = c.args.change.key in
    let n = c.in-Some.node.now in
    let here : get a key ≡ Some n = ap (get a) (sym c.index.ensures) ∙ sym c.in-Some.ensures in
    let fresh : Contains c.args.stale.now key → ⊥ = λ there. true≢false (sym (c.is_among.ensures.1 there) ∙ c.if-is_among.false) in
    let was : c.sum_of-old.result ≡ sum_at sums key = c.sum_of-old.ensures ∙ ap (λ (xs : List ℕ). sum_at xs key) c.as_slice.ensures.value in
    let is : c.in-Some-changed.new + c.args.change.old ≡ sum_at sums key + c.args.change.new = omega (arith, c.in-Some-changed.ensures, was) in
    let top : parent_at a key ≡ None = ap parent_of here ∙ sym c.parent.ensures ∙ c.in-None.is in
    subst (λ (xs : List ℕ). AddUp a xs (Contains c.args.stale.now)) (sym (c.write.ensures.written c.if-not-write.false))
    (risen a c.requires.joined.root c.requires.joined.level c.requires.joined.linked key sums c.args.stale.now c.args.change.old c.args.change.new
    c.requires.misses n here fresh c.in-Some-changed.new is (c.write.ensures.place c.if-not-write.false) top)
