use Rattle.std.proofs.Common.{◌<◌, ◌≤◌, length, rules}
use Rattle.std.proofs.lemmas.Option.{slice_get_within}
use Rattle.slab.specs.Slab.{ContainsKey}
use Rattle.rt_tree_node.specs.Places.{cells_at}
use Rattle.rt_tree_remove.proofs.Climbs.{key-there, node-there}
use Rattle.rt_tree_remove.proofs.Taken.{takes, few-axes, leaf-level}
use Rattle.rt_tree_remove.proofs.take.take_row.Goals as goal

pub remove_cell-requires : goal.remove_cell-requires
remove_cell-requires g c =
    let t = c.args.tree.now in
    let location = c.args.location.now in
    let home = c.requires.location.home in
    let few : g.row.D ≤ 3 = few-axes t c.args.id.now location.leaf c.requires.whole c.requires.idle home in
    let here : ContainsKey t.nodes location.leaf = key-there t.nodes location.leaf 0 (leaf-level t c.args.id.now location.leaf c.requires.whole c.requires.idle home) in
    let inside : location.at < length (cells_at t.nodes location.leaf) = slice_get_within (cells_at t.nodes location.leaf) location.at _ c.requires.location.cell in
    search rules

pub returns : goal.returns
returns g c =
    let t = c.args.tree.now in
    let id = c.args.id.now in
    let location = c.args.location.now in
    let is = c.requires.location in
    let there = node-there t.nodes location.leaf 0 (leaf-level t id location.leaf c.requires.whole c.requires.idle is.home) in
    takes t id location.leaf c.requires.whole c.requires.idle is.home c.remove_cell.new.nodes location.at there.0 location.rect there.1 is.cell
    (c.remove_cell.ensures there.0 there.1) c.requires.branched (record t { leaves = c.forget.new.leaves }) (c.forget.ensures id location.leaf is.entry)
    c.remove_cell.ensures
