use Rattle.std.proofs.Common.{◌≡◌, ◌<◌, ◌≤◌, ℕ, ℤ, length, Some, ap, sym, ◌∙◌, rules}
use Rattle.std.specs.Ordering.{int_eq}
use Rattle.std.specs.Prelude.{slice_get}
use Rattle.std.proofs.lemmas.Option.{slice_get-get_or}
use Rattle.slab.specs.Slab.{ContainsKey}
use Rattle.indexmap.specs.IndexMap.{get as leaf_of}
use Rattle.rt_tree_node.specs.declared.cell.Cell.{Cell}
use Rattle.rt_tree_node.specs.Places.{times_listed, cells_of, cells_at}
use Rattle.rt_tree_remove.proofs.Climbs.{key-there}
use Rattle.rt_tree_remove.proofs.Taken.{leaf-level, row-listed, listed-place, row-found}
use Rattle.rt_tree_remove.proofs.location.find_row.Goals as goal

pub node_at-node-requires : goal.node_at-node-requires
node_at-node-requires g c =
    let t = c.args.tree.now in
    let leaf = c.in_ok-index.leaf in
    let home : leaf_of int_eq t.leaves c.args.id.now ≡ Some leaf = search rules in
    let few : g.row.D ≤ 3 = c.requires.few in
    let here : ContainsKey t.nodes leaf = key-there t.nodes leaf 0 (leaf-level t c.args.id.now leaf c.requires.whole c.requires.idle home) in
    search rules

pub position-at-requires : goal.position-at-requires
position-at-requires g c =
    let t = c.args.tree.now in
    let leaf = c.in_ok-index.leaf in
    let home : leaf_of int_eq t.leaves c.args.id.now ≡ Some leaf = search rules in
    let few : g.row.D ≤ 3 = c.requires.few in
    search rules

pub cell-requires : goal.cell-requires
cell-requires g c =
    let t = c.args.tree.now in
    let leaf = c.in_ok-index.leaf in
    let n = c.node_at-node.result.now in
    let home : leaf_of int_eq t.leaves c.args.id.now ≡ Some leaf = search rules in
    let few : g.row.D ≤ 3 = c.requires.few in
    let once = sym (ap (λ s. times_listed c.args.id.now (cells_of s)) c.node_at-node.ensures)
    ∙ row-listed t c.args.id.now leaf c.requires.whole c.requires.idle home in
    let inside : c.position-at.result < length n.cells = listed-place c.args.id.now n.cells c.position-at.result once c.position-at.ensures.first in
    search rules

pub returns : goal.returns
returns g c =
    let t = c.args.tree.now in
    let index = c.in_ok-index.index in
    let leaf : ℕ = c.in_ok-index.leaf in
    let n = c.node_at-node.result.now in
    let at = c.position-at.result in
    let x = c.cell.result in
    let home : leaf_of int_eq t.leaves c.args.id.now ≡ Some leaf = search rules in
    let entry : slice_get t.leaves.entries index ≡ Some (c.args.id.now, leaf) = c.in_ok-index.ensures.entry in
    let once = sym (ap (λ s. times_listed c.args.id.now (cells_of s)) c.node_at-node.ensures)
    ∙ row-listed t c.args.id.now leaf c.requires.whole c.requires.idle home in
    let found = row-found t.nodes leaf at n c.args.id.now x c.node_at-node.ensures
    (listed-place c.args.id.now n.cells at once c.position-at.ensures.first) c.position-at.ensures.found c.cell.ensures in
    let with_number : ℤ → Cell g.row.D = λ z. record { number = z; rect = x.rect } in
    record {
      entry = entry;
      home = home;
      cell = slice_get-get_or (cells_at t.nodes leaf) at x found.0 ∙ ap Some (found.1 x ∙ ap with_number found.2);
    }
