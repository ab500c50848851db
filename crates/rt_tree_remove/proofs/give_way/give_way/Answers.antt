use Rattle.std.proofs.Common.{◌≡◌, ◌-◌, ◌<◌, ◌≤◌, suc, Some, length, ap, arith, is_some, sym, ◌∙◌, rules}
use Rattle.std.proofs.lemmas.List.{length-map}
use Rattle.slab.specs.Slab.{get, ContainsKey}
use Rattle.rt_tree_node.specs.declared.cell.Cell.{Cell}
use Rattle.rt_tree_node.specs.Places.{cells_at, cells_of}
use Rattle.rt_tree_remove.proofs.Climbs.{key-there, node-there}
use Rattle.rt_tree_remove.proofs.WayGiven.{loses-root, way-given, way-kept, root-not_child, child-level, first-few, first-child}
use Rattle.rt_tree_remove.proofs.give_way.give_way.Goals as goal

pub node_at-root-requires : goal.node_at-root-requires
node_at-root-requires g c =
    let t = c.args.tree.now in
    let few : g.row.D ≤ 3 = first-few t (t.level - 1) c.requires.whole (omega arith) in
    let here : ContainsKey t.nodes t.root = key-there t.nodes t.root t.level c.requires.whole.linked.root_level in
    search rules

pub len-requires : goal.len-requires
len-requires g c =
    let t = c.args.tree.now in
    let few : g.row.D ≤ 3 = first-few t (t.level - 1) c.requires.whole (omega arith) in search rules

pub numbers-requires : goal.numbers-requires
numbers-requires g c =
    let t = c.args.tree.now in
    let few : g.row.D ≤ 3 = first-few t (t.level - 1) c.requires.whole (omega arith) in search rules

pub returns-then-tree-eq0 : goal.returns-then-tree-eq0
returns-then-tree-eq0 g c = way-kept c.args.tree.now c.requires.whole (λ high. absurd (omega arith))

pub returns-then-len-gt1 : goal.returns-then-len-gt1
returns-then-len-gt1 g c =
    let own = ap (λ s. length (cells_of s)) c.node_at-root.ensures in
    way-kept c.args.tree.now c.requires.whole (λ high. omega arith)

pub first_key-child-requires : goal.first_key-child-requires
first_key-child-requires g c =
    let t = c.args.tree.now in
    let height : t.level ≡ suc (t.level - 1) = omega arith in
    let own = ap (λ s. length (cells_of s)) c.node_at-root.ensures in
    let one = c.requires.whole.fitted.some t.root (t.level - 1) (c.requires.whole.linked.root_level ∙ ap Some height) in
    let long = ap length c.numbers.ensures.value in
    let same = length-map c.node_at-root.result.now.cells (λ (x : Cell g.row.D). x.number) in
    omega arith

pub remove_node-requires : goal.remove_node-requires
remove_node-requires g c =
    let t = c.args.tree.now in
    let few : g.row.D ≤ 3 = first-few t (t.level - 1) c.requires.whole (omega arith) in
    let here : ContainsKey t.nodes t.root = key-there t.nodes t.root t.level c.requires.whole.linked.root_level in
    search rules

pub set_parent-requires : goal.set_parent-requires
set_parent-requires g c =
    let t = c.args.tree.now in
    let child = c.first_key-child.result in
    let height : t.level ≡ suc (t.level - 1) = omega arith in
    let few : g.row.D ≤ 3 = first-few t (t.level - 1) c.requires.whole height in
    let own = ap (λ s. length (cells_of s)) c.node_at-root.ensures in
    let one = c.requires.whole.fitted.some t.root (t.level - 1) (c.requires.whole.linked.root_level ∙ ap Some height) in
    let long = ap length c.numbers.ensures.value in
    let same = length-map c.node_at-root.result.now.cells (λ (x : Cell g.row.D). x.number) in
    let alone : length (cells_at t.nodes t.root) ≤ 1 = omega arith in
    let some : 0 < length c.numbers.result.now = omega arith in
    let child_is = first-child t.nodes t.root child c.node_at-root.result.now c.numbers.result.now c.node_at-root.ensures c.numbers.ensures.value some c.first_key-child.ensures in
    let apart = root-not_child t (t.level - 1) child c.requires.whole c.requires.idle height alone child_is in
    let level = child-level t (t.level - 1) child c.requires.whole c.requires.idle height alone child_is in
    let here : ContainsKey c.remove_node.new.nodes child = ap is_some (c.remove_node.ensures.updates.others child (λ s. apart (sym s))) ∙ key-there t.nodes child (t.level - 1) level in
    search rules

pub returns : goal.returns
returns g c =
    let t = c.args.tree.now in
    let child = c.first_key-child.result in
    let height : t.level ≡ suc (t.level - 1) = omega arith in
    let own = ap (λ s. length (cells_of s)) c.node_at-root.ensures in
    let one = c.requires.whole.fitted.some t.root (t.level - 1) (c.requires.whole.linked.root_level ∙ ap Some height) in
    let long = ap length c.numbers.ensures.value in
    let same = length-map c.node_at-root.result.now.cells (λ (x : Cell g.row.D). x.number) in
    let alone : length (cells_at t.nodes t.root) ≤ 1 = omega arith in
    let some : 0 < length c.numbers.result.now = omega arith in
    let child_is = first-child t.nodes t.root child c.node_at-root.result.now c.numbers.result.now c.node_at-root.ensures c.numbers.ensures.value some c.first_key-child.ensures in
    let apart = root-not_child t (t.level - 1) child c.requires.whole c.requires.idle height alone child_is in
    let level = child-level t (t.level - 1) child c.requires.whole c.requires.idle height alone child_is in
    let there = node-there t.nodes child (t.level - 1) level in
    let has : get c.remove_node.new.nodes child ≡ Some there.0 = c.remove_node.ensures.updates.others child (λ s. apart (sym s)) ∙ there.1 in
    let puts = c.set_parent.ensures there.0 has in
    way-given t (t.level - 1) child c.requires.whole c.requires.idle height alone child_is c.set_parent.new.nodes
    (loses-root t.nodes c.remove_node.new.nodes c.set_parent.new.nodes t.root child there.0 apart c.remove_node.ensures.updates has puts)
    (puts.room ∙ c.remove_node.ensures.capacity)
