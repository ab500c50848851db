use Rattle.std.proofs.Common.{◌≡◌, ◌-◌, ◌*◌, ◌^◌, ◌≤◌, Some, vec_capacity, unwrap_or, ap, sym, ◌∙◌, arith, rules}
use Rattle.slab.specs.Slab.{ContainsKey}
use Rattle.rt_box.specs.Capacity.{least_fill}
use Rattle.rt_tree_node.specs.Places.{parent_at, parent_of}
use Rattle.rt_tree_remove.specs.Steps.{IsSoundBut}
use Rattle.rt_tree_remove.proofs.Climbs.{key-there}
use Rattle.rt_tree_remove.proofs.Condenses.{climbing-start, climbing-more, climbing-end, climbing-condensed}
use Rattle.rt_tree_remove.proofs.condense.condense.Goals as goal

pub returns-then-stays_condensed : goal.returns-then-stays_condensed
returns-then-stays_condensed g c =
    let t = c.args.tree.now in
    let condensed = c.stays_condensed.ensures c.if-stays_condensed.true in
    climbing-condensed t t c.args.leaf c.args.leaf condensed.0 (climbing-start t c.args.leaf c.requires.but c.requires.bottom) condensed.1 condensed.2

pub loop-parent-init : goal.loop-parent-init
loop-parent-init g c = climbing-start c.args.tree.now c.args.leaf c.requires.but c.requires.bottom

pub node_at-requires : goal.node_at-requires
node_at-requires g c =
    let but = c.loop-parent.invariant.but in
    let few : g.row.D ≤ 3 = but.axes in
    let here : ContainsKey c.loop-parent.tree.nodes c.loop-parent.key = key-there c.loop-parent.tree.nodes c.loop-parent.key but.level but.here in
    search rules

pub parent-requires : goal.parent-requires
parent-requires g c = let few : g.row.D ≤ 3 = c.loop-parent.invariant.but.axes in search rules

pub is_condensed-requires : goal.is_condensed-requires
is_condensed-requires g c =
    let t = c.loop-parent.tree in
    let keeps = c.loop-parent.invariant.keeps in
    let but : IsSoundBut t c.loop-parent.key = c.loop-parent.invariant.but in
    let up : parent_at t.nodes c.loop-parent.key ≡ Some c.in-Some.parent = ap parent_of c.node_at.ensures ∙ sym c.parent.ensures ∙ c.in-Some.is in
    let keys : t.nodes.capacity ≤ 2 ^ 62 = omega (arith, keeps.room, c.requires.keys) in
    search rules

pub returns-then-is_condensed : goal.returns-then-is_condensed
returns-then-is_condensed g c =
    climbing-condensed c.args.tree.now c.loop-parent.tree c.args.leaf c.loop-parent.key c.in-Some.parent c.loop-parent.invariant
    (ap parent_of c.node_at.ensures ∙ sym c.parent.ensures ∙ c.in-Some.is) (c.is_condensed.ensures c.if-is_condensed.true)

pub climb-requires : goal.climb-requires
climb-requires g c =
    let t = c.loop-parent.tree in
    let keeps = c.loop-parent.invariant.keeps in
    let but : IsSoundBut t c.loop-parent.key = c.loop-parent.invariant.but in
    let up : parent_at t.nodes c.loop-parent.key ≡ Some c.in-Some.parent = ap parent_of c.node_at.ensures ∙ sym c.parent.ensures ∙ c.in-Some.is in
    let m : least_fill t.capacity ≡ least_fill c.args.tree.now.capacity = ap least_fill keeps.capacity in
    let product : (least_fill t.capacity - 1) * t.level ≡ (least_fill c.args.tree.now.capacity - 1) * c.args.tree.now.level =
    ap (λ n. (n - 1) * t.level) m ∙ ap (λ n. (least_fill c.args.tree.now.capacity - 1) * n) keeps.level in
    let old = c.requires.room in
    let cap = keeps.pending_room in
    let room : (least_fill t.capacity - 1) * t.level ≤ vec_capacity t.pending = omega arith in
    let keys : t.nodes.capacity ≤ 2 ^ 62 = omega (arith, keeps.room, c.requires.keys) in
    search rules

pub loop-parent-preserved : goal.loop-parent-preserved
loop-parent-preserved g c =
    climbing-more c.args.tree.now c.loop-parent.tree c.climb.new.tree c.args.leaf c.loop-parent.key c.in-Some.parent c.loop-parent.invariant
    (ap parent_of c.node_at.ensures ∙ sym c.parent.ensures ∙ c.in-Some.is) c.climb.ensures

pub loop-parent-smaller : goal.loop-parent-smaller
loop-parent-smaller g c =
    let but = c.loop-parent.invariant.but in
    let climbs = c.climb.ensures in
    let new = climbs.up but.level but.here in
    let high = climbs.next.sound.linked.levels c.in-Some.parent _ new in
    let top = climbs.keeps.level in
    let before = ap (λ o. unwrap_or o 0) but.here in
    let after = ap (λ o. unwrap_or o 0) new in
    omega arith

pub returns : goal.returns
returns g c =
    climbing-end c.args.tree.now c.loop-parent.tree c.args.leaf c.loop-parent.key c.loop-parent.invariant
    (ap parent_of c.node_at.ensures ∙ sym c.parent.ensures ∙ c.in_default.is)
