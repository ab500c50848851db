use Rattle.std.proofs.Common.{◌≡◌, ℕ, suc, ◌≤◌, ◌∙◌, Some, length, arith, ap, sym, rules}
use Rattle.slab.specs.Slab.{ContainsKey}
use Rattle.rt_tree_node.specs.Places.{cells_at, cells_of, parent_at, parent_of}
use Rattle.rt_tree_place.specs.Steps.{IsNamedAt}
use Rattle.rt_tree_place.proofs.Lifted.{parent-level, rising-named_at}
use Rattle.rt_tree_place.proofs.WayDown.{present}
use Rattle.rt_tree_place.proofs.rise.is_settled.Goals as goal

pub is_held-requires : goal.is_held-requires
is_held-requires g c =
    let few = c.requires.few in
    let t = c.args.tree.now in
    let rising = c.requires.rising in
    let keys = c.requires.keys in
    let up : parent_at t.nodes c.args.key ≡ Some c.in-Some.parent = ap parent_of c.node_at-node.ensures ∙ sym c.parent.ensures ∙ c.in-Some.is in
    let here : ContainsKey t.nodes c.args.key = present t.nodes c.args.key rising.level rising.here in
    let above : ContainsKey t.nodes c.in-Some.parent = present t.nodes c.in-Some.parent (suc rising.level) (parent-level t c.args.key c.in-Some.parent rising up) in
    let named : (at : ℕ) × IsNamedAt (cells_at t.nodes c.in-Some.parent) at c.args.key = rising-named_at t c.args.key c.in-Some.parent rising up in
    search rules

pub returns-in-Some : goal.returns-in-Some
returns-in-Some g c held =
    let t = c.args.tree.now in
    let up : parent_at t.nodes c.args.key ≡ Some c.in-Some.parent = ap parent_of c.node_at-node.ensures ∙ sym c.parent.ensures ∙ c.in-Some.is in
    let found = c.is_held.ensures held in
    let fits : length (cells_at t.nodes c.args.key) ≤ t.capacity =
    omega (arith, c.if-len-greatest.false, c.len.ensures.value, c.greatest.ensures.value, ap length (ap cells_of c.node_at-node.ensures)) in
    (c.in-Some.parent, up, record { fits = fits; box = c.requires.held c.in-Some.parent found.0 up found.1 found.2 })
