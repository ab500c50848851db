use Rattle.std.proofs.Common.{◌≡◌, ◌≢◌, ℕ, suc, ◌<◌, ◌≤◌, ◌+◌, pos, length, vec_len, vec_capacity, ap, arith, rules}
use Rattle.std.proofs.lemmas.List.Elements.{All-weaker}
use Rattle.slab.specs.Slab.{ContainsKey}
use Rattle.rt_tree_node.specs.Places.{key_of, times_named, cells_at, cells_of}
use Rattle.rt_tree_node.specs.Sound.{NamesChild}
use Rattle.rt_tree_place.specs.Steps.{IsNamedAt}
use Rattle.rt_tree_place.proofs.Lifted.{named-at}
use Rattle.rt_tree_remove.proofs.Changed.{refits-at}
use Rattle.rt_tree_remove.proofs.Climbs.{key-there, node-there, parent-level, named-above, key-not_parent, waits-fit, climb-refit, climb-dissolve}
use Rattle.rt_tree_remove.proofs.climb.climb.Goals as goal

pub node_at-requires : goal.node_at-requires
node_at-requires g c =
    let t = c.args.tree.now in
    let but = c.requires.but in
    let here : ContainsKey t.nodes c.args.key = key-there t.nodes c.args.key but.level but.here in
    let few : g.row.D ≤ 3 = c.requires.but.axes in
    search rules

pub len-requires : goal.len-requires
len-requires g c = let few : g.row.D ≤ 3 = c.requires.but.axes in search rules

pub refit-requires : goal.refit-requires
refit-requires g c =
    let t = c.args.tree.now in
    let but = c.requires.but in
    let few : g.row.D ≤ 3 = but.axes in
    let keys = c.requires.keys in
    let here : ContainsKey t.nodes c.args.key = key-there t.nodes c.args.key but.level but.here in
    let own = ap (λ s. length (cells_of s)) c.node_at.ensures in
    let cap = but.sound.fitted.cap in
    let some : 1 ≤ length (cells_at t.nodes c.args.key) = omega arith in
    let level = parent-level t c.args.key c.args.parent but c.requires.up in
    let above : ContainsKey t.nodes c.args.parent = key-there t.nodes c.args.parent (suc but.level) level in
    let once = named-above t c.args.key c.args.parent but c.requires.up in
    let counted : 0 < times_named c.args.key (cells_at t.nodes c.args.parent) = omega arith in
    let named : (at : ℕ) × IsNamedAt (cells_at t.nodes c.args.parent) at c.args.key = named-at c.args.key (cells_at t.nodes c.args.parent)
    (All-weaker (NamesChild t.nodes but.level c.args.parent) (λ c. c.number ≡ pos (key_of c)) (λ c is. is.names.number_is) (cells_at t.nodes c.args.parent)
    (but.sound.linked.children c.args.parent but.level level)) counted in
    search rules

pub returns-then-len-least : goal.returns-then-len-least
returns-then-len-least g c =
    let t = c.args.tree.now in
    let but = c.requires.but in
    let own = ap (λ s. length (cells_of s)) c.node_at.ensures in
    let above = node-there t.nodes c.args.parent (suc but.level) (parent-level t c.args.key c.args.parent but c.requires.up) in
    let fit = c.refit.ensures above.0 above.1 in
    climb-refit t c.args.key c.args.parent but c.requires.up c.refit.new.nodes fit.at
    (refits-at t.nodes c.refit.new.nodes c.args.key c.args.parent above.0 above.1 fit) (omega arith)

pub remove_child-node-requires : goal.remove_child-node-requires
remove_child-node-requires g c =
    let t = c.args.tree.now in
    let but = c.requires.but in
    let here : ContainsKey t.nodes c.args.key = key-there t.nodes c.args.key but.level but.here in
    let above : ContainsKey t.nodes c.args.parent = key-there t.nodes c.args.parent _ (parent-level t c.args.key c.args.parent but c.requires.up) in
    let once = named-above t c.args.key c.args.parent but c.requires.up in
    let named : 0 < times_named c.args.key (cells_at t.nodes c.args.parent) = omega arith in
    let apart : c.args.key ≢ c.args.parent = key-not_parent t c.args.key c.args.parent but c.requires.up in
    let few : g.row.D ≤ 3 = c.requires.but.axes in
    search rules

pub push_cells-requires : goal.push_cells-requires
push_cells-requires g c =
    let t = c.args.tree.now in
    let own = ap (λ s. length (cells_of s)) c.node_at.ensures in
    let node = ap (λ s. length (cells_of s)) c.remove_child-node.ensures.node in
    let fits = waits-fit t c.args.key c.args.parent c.requires.but c.requires.up c.remove_child-node.result.cells (omega arith) c.requires.room in
    let room : vec_len t.pending + length c.remove_child-node.result.cells ≤ vec_capacity t.pending = search rules in
    let few : g.row.D ≤ 3 = c.requires.but.axes in
    search rules

pub returns : goal.returns
returns g c =
    let t = c.args.tree.now in
    let own = ap (λ s. length (cells_of s)) c.node_at.ensures in
    let node = ap (λ s. length (cells_of s)) c.remove_child-node.ensures.node in
    climb-dissolve t c.args.key c.args.parent c.requires.but c.requires.up (record t { nodes = c.remove_child-node.new.nodes; pending = c.push_cells.new.pending })
    c.remove_child-node.ensures.change.0 c.remove_child-node.result c.remove_child-node.ensures.node c.remove_child-node.ensures.change.1 (omega arith)
    c.push_cells.ensures.items c.push_cells.ensures.room
