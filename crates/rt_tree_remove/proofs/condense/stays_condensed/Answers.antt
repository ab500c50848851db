use Rattle.std.proofs.Common.{◌≤◌, length, arith, ap, rules}
use Rattle.slab.specs.Slab.{ContainsKey}
use Rattle.rt_box.specs.Capacity.{least_fill}
use Rattle.rt_tree_node.specs.Places.{cells_of, cells_at}
use Rattle.rt_tree_remove.specs.Steps.{IsSoundButForMap}
use Rattle.rt_tree_remove.proofs.Climbs.{key-there}
use Rattle.rt_tree_remove.proofs.condense.stays_condensed.Goals as goal

pub node_at-requires : goal.node_at-requires
node_at-requires g c =
    let but = c.requires.but in
    let few : g.row.D ≤ 3 = but.axes in
    let here : ContainsKey c.args.tree.now.nodes c.args.leaf = key-there c.args.tree.now.nodes c.args.leaf but.level but.here in
    search rules

pub len-requires : goal.len-requires
len-requires g c = let few : g.row.D ≤ 3 = c.requires.but.axes in search rules

pub lies_inside_leaf-requires : goal.lies_inside_leaf-requires
lies_inside_leaf-requires g c =
    let few : g.row.D ≤ 3 = c.requires.but.axes in
    let but : IsSoundButForMap c.args.tree.now c.args.leaf = (c.args.tree.now, c.requires.but) in
    search rules

pub returns : goal.returns
returns g c lies =
    let t = c.args.tree.now in
    let inside = c.lies_inside_leaf.ensures lies in
    let filled : least_fill t.capacity ≤ length (cells_at t.nodes c.args.leaf) =
    omega (arith, c.if-len-least.false, c.len.ensures.value, c.least.ensures.value, ap length (ap cells_of c.node_at.ensures)) in
    (inside.parent, inside.up, record { filled = filled; box = c.requires.inside inside })
