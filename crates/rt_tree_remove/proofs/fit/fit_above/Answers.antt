use Rattle.std.proofs.Common.{◌≡◌, ℕ, ◌^◌, ◌≤◌, length, Some, arith, refl, ap, sym, ◌∙◌, rules}
use Rattle.slab.specs.Slab.{ContainsKey}
use Rattle.rt_tree_node.specs.declared.arena.Arena.{Arena}
use Rattle.rt_tree_node.specs.Places.{times_named, cells_at, parent_at, parent_of}
use Rattle.rt_tree_place.specs.Steps.{IsNamedAt as IsNumberedAt}
use Rattle.rt_tree_remove.proofs.Climbs.{key-there}
use Rattle.rt_tree_remove.proofs.Condenses.{climbing-start, climbing-end}
use Rattle.rt_tree_remove.proofs.Fitting.{is-under, filled, fits-already, fits-one, rises, fits-inside}
use Rattle.rt_tree_remove.proofs.fit.fit_above.Goals as goal

pub lies_inside_leaf-requires : goal.lies_inside_leaf-requires
lies_inside_leaf-requires g c = let few : g.row.D ≤ 3 = c.requires.but.1.axes in search rules

pub returns-then-lies_inside_leaf : goal.returns-then-lies_inside_leaf
returns-then-lies_inside_leaf g c = record {
  rest = refl;
  condenses = λ other but.
      fits-inside (record c.args.tree.now { leaves = other.leaves }) c.args.leaf but c.requires.bottom c.requires.roomy
      (c.lies_inside_leaf.ensures c.if-lies_inside_leaf.true) c.requires.inside;
}

pub loop-parent-init : goal.loop-parent-init
loop-parent-init g c = record {
  rest = refl;
  climbing = λ other but. climbing-start (record c.args.tree.now { leaves = other.leaves }) c.args.leaf but c.requires.bottom;
}

pub node_at-requires : goal.node_at-requires
node_at-requires g c =
    let but = (c.loop-parent.invariant.climbing c.requires.but.0 c.requires.but.1).but in
    let few : g.row.D ≤ 3 = but.axes in
    let here : ContainsKey c.loop-parent.tree.nodes c.loop-parent.key = key-there c.loop-parent.tree.nodes c.loop-parent.key but.level but.here in
    search rules

pub parent-requires : goal.parent-requires
parent-requires g c = let few : g.row.D ≤ 3 = c.requires.but.1.axes in search rules

pub has_least_box-requires : goal.has_least_box-requires
has_least_box-requires g c =
    let other = c.requires.but.0 in
    let t : Arena g.row.D = record c.loop-parent.tree { leaves = other.leaves } in
    let so_far = c.loop-parent.invariant.climbing other c.requires.but.1 in
    let up : parent_at t.nodes c.loop-parent.key ≡ Some c.in-Some.parent = ap parent_of c.node_at.ensures ∙ sym c.parent.ensures ∙ c.in-Some.is in
    let few : g.row.D ≤ 3 = so_far.but.axes in
    let keys : t.nodes.capacity ≤ 2 ^ 62 = omega (arith, so_far.keeps.room, c.requires.keys) in
    let under = is-under t c.loop-parent.key c.in-Some.parent so_far.but up in
    let here : ContainsKey t.nodes c.loop-parent.key = under.here in
    let above : ContainsKey t.nodes c.in-Some.parent = under.above in
    let full = filled (record c.args.tree.now { leaves = other.leaves }) t c.args.leaf c.loop-parent.key c.in-Some.parent c.requires.roomy so_far up in
    let cap = so_far.but.sound.fitted.cap in
    let some : 1 ≤ length (cells_at t.nodes c.loop-parent.key) = omega arith in
    let named : (at : ℕ) × IsNumberedAt (cells_at t.nodes c.in-Some.parent) at c.loop-parent.key = under.named in
    let once : times_named c.loop-parent.key (cells_at t.nodes c.in-Some.parent) ≤ 1 = under.once in
    search rules

pub returns-then-has_least_box : goal.returns-then-has_least_box
returns-then-has_least_box g c = record {
  rest = c.loop-parent.invariant.rest;
  condenses = λ other but.
      fits-already (record c.args.tree.now { leaves = other.leaves }) (record c.loop-parent.tree { leaves = other.leaves }) c.args.leaf c.loop-parent.key
      c.in-Some.parent c.requires.roomy (c.loop-parent.invariant.climbing other but) (ap parent_of c.node_at.ensures ∙ sym c.parent.ensures ∙ c.in-Some.is)
      (c.has_least_box.ensures.0 c.if-has_least_box.true);
}

pub refit-requires : goal.refit-requires
refit-requires g c =
    let other = c.requires.but.0 in
    let t : Arena g.row.D = record c.loop-parent.tree { leaves = other.leaves } in
    let so_far = c.loop-parent.invariant.climbing other c.requires.but.1 in
    let up : parent_at t.nodes c.loop-parent.key ≡ Some c.in-Some.parent = ap parent_of c.node_at.ensures ∙ sym c.parent.ensures ∙ c.in-Some.is in
    let few : g.row.D ≤ 3 = so_far.but.axes in
    let keys : t.nodes.capacity ≤ 2 ^ 62 = omega (arith, so_far.keeps.room, c.requires.keys) in
    let under = is-under t c.loop-parent.key c.in-Some.parent so_far.but up in
    let here : ContainsKey t.nodes c.loop-parent.key = under.here in
    let above : ContainsKey t.nodes c.in-Some.parent = under.above in
    let full = filled (record c.args.tree.now { leaves = other.leaves }) t c.args.leaf c.loop-parent.key c.in-Some.parent c.requires.roomy so_far up in
    let cap = so_far.but.sound.fitted.cap in
    let some : 1 ≤ length (cells_at t.nodes c.loop-parent.key) = omega arith in
    let named : (at : ℕ) × IsNumberedAt (cells_at t.nodes c.in-Some.parent) at c.loop-parent.key = under.named in
    search rules

pub loop-parent-preserved : goal.loop-parent-preserved
loop-parent-preserved g c = record {
  rest = ap (λ (x : Arena g.row.D). record x { nodes = c.refit.new.nodes }) c.loop-parent.invariant.rest;
  climbing = λ other but.
      fits-one (record c.args.tree.now { leaves = other.leaves }) (record c.loop-parent.tree { leaves = other.leaves }) c.args.leaf c.loop-parent.key
      c.in-Some.parent c.requires.roomy (c.loop-parent.invariant.climbing other but) (ap parent_of c.node_at.ensures ∙ sym c.parent.ensures ∙ c.in-Some.is)
      c.refit.new.nodes c.refit.ensures;
}

pub loop-parent-smaller : goal.loop-parent-smaller
loop-parent-smaller g c =
    let other = c.requires.but.0 in
    let t : Arena g.row.D = record c.loop-parent.tree { leaves = other.leaves } in
    let so_far = c.loop-parent.invariant.climbing other c.requires.but.1 in
    let up : parent_at t.nodes c.loop-parent.key ≡ Some c.in-Some.parent = ap parent_of c.node_at.ensures ∙ sym c.parent.ensures ∙ c.in-Some.is in
    rises (record c.args.tree.now { leaves = other.leaves }) t c.args.leaf c.loop-parent.key c.in-Some.parent c.requires.roomy so_far up
    c.refit.new.nodes c.refit.ensures

pub returns : goal.returns
returns g c = record {
  rest = c.loop-parent.invariant.rest;
  condenses = λ other but.
      climbing-end (record c.args.tree.now { leaves = other.leaves }) (record c.loop-parent.tree { leaves = other.leaves }) c.args.leaf c.loop-parent.key
      (c.loop-parent.invariant.climbing other but) (ap parent_of c.node_at.ensures ∙ sym c.parent.ensures ∙ c.in_default.is);
}
