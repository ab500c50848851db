use Rattle.std.proofs.Common.{◌≡◌, ◌+◌, ◌<◌, ◌≤◌, Some, is_some, length, arith, rules, ap, ◌∙◌, sym, subst}
use Rattle.slab.specs.Slab.{ContainsKey, Updates}
use Rattle.rt_box.specs.Capacity.{most_cells}
use Rattle.rt_box.specs.Rect.{IsBox}
use Rattle.rt_tree_node.specs.Node.{NodeCells}
use Rattle.rt_tree_node.specs.Places.{cells_of, cells_at}
use Rattle.rt_tree_place.proofs.Few.{least-two}
use Rattle.rt_tree_pack.specs.Steps.{MayFill}
use Rattle.rt_tree_pack.proofs.NewNode.{may-fill_new, packs-node}
use Rattle.rt_tree_pack.proofs.node.pack_node.Goals as goal

pub bounds-cells-0 : goal.bounds-cells-0
bounds-cells-0 g c = let low = least-two c.args.tree.now.capacity c.requires.may.cap in omega (arith, low, c.requires.may.least)

pub fill-requires : goal.fill-requires
fill-requires g c =
    let few = c.requires.few in
    let b = c.add_node-key.new.nodes in
    let key = c.add_node-key.result in
    let u = subst (λ (n : NodeCells g.row.D). Updates c.args.tree.now.nodes b key (Some n)) c.new.ensures c.add_node-key.ensures.updates in
    let present : ContainsKey b key = ap is_some u.changed in
    let none : length (cells_at b key) ≡ 0 = ap (λ s. length (cells_of s)) u.changed in
    let high = c.requires.may.cap.1 in
    let room : length (cells_at b key) + length c.args.cells.now ≤ most_cells = omega (arith, none, high, c.requires.may.most) in
    let named : MayFill (record c.args.tree.now { nodes = b }) key c.args.level c.args.cells.now = may-fill_new c.args.tree.now b key c.args.level c.args.cells.now c.requires.may c.add_node-key.ensures.was_vacant u in
    search rules

pub hull_at-hull-requires : goal.hull_at-hull-requires
hull_at-hull-requires g c =
    let few = c.requires.few in
    let b = c.add_node-key.new.nodes in
    let key = c.add_node-key.result in
    let u = subst (λ (n : NodeCells g.row.D). Updates c.args.tree.now.nodes b key (Some n)) c.new.ensures c.add_node-key.ensures.updates in
    let here = c.fill.ensures.here _ u.changed in
    let present : ContainsKey c.fill.new.tree.nodes key = ap is_some here in
    let low = least-two c.args.tree.now.capacity c.requires.may.cap in
    let count = ap (λ s. length (cells_of s)) here in
    let some : 1 ≤ length (cells_at c.fill.new.tree.nodes key) = omega (arith, count, low, c.requires.may.least) in
    search rules

pub cell_for-requires : goal.cell_for-requires
cell_for-requires g c =
    let few = c.requires.few in
    let below : c.add_node-key.result < 9223372036854775808 = omega (arith, c.add_node-key.ensures.key_in_range, c.add_node-key.ensures.capacity, c.requires.keys) in
    search rules

pub returns : goal.returns
returns g c =
    let old = c.args.tree.now in
    let b = c.add_node-key.new.nodes in
    let key = c.add_node-key.result in
    let u = subst (λ (n : NodeCells g.row.D). Updates old.nodes b key (Some n)) c.new.ensures c.add_node-key.ensures.updates in
    let rect = c.cell_for.ensures.rect in
    packs-node old c.fill.new.tree b key c.args.level c.args.cells.now c.cell_for.result c.requires.may c.add_node-key.ensures.was_vacant u
    c.add_node-key.ensures.len c.add_node-key.ensures.capacity c.fill.ensures c.cell_for.ensures.number (rect ∙ c.hull_at-hull.ensures.value)
    (subst (IsBox g.row.D) (sym rect) c.hull_at-hull.ensures.is_box)
