use Rattle.std.proofs.Common.{◌≡◌, ℕ, suc, ◌<◌, ◌≤◌, pos, length, ap, arith, rules}
use Rattle.std.proofs.lemmas.List.Elements.{All-weaker}
use Rattle.slab.specs.Slab.{ContainsKey}
use Rattle.rt_tree_node.specs.Places.{key_of, cells_of, times_named, cells_at}
use Rattle.rt_tree_node.specs.Sound.{NamesChild}
use Rattle.rt_tree_place.specs.Steps.{IsNamedAt}
use Rattle.rt_tree_place.proofs.Lifted.{named-at}
use Rattle.rt_tree_remove.proofs.Climbs.{key-there, parent-level, named-above}
use Rattle.rt_tree_remove.proofs.condense.is_condensed.Goals as goal

pub node_at-requires : goal.node_at-requires
node_at-requires g c =
    let but = c.requires.but in
    let few : g.row.D ≤ 3 = but.axes in
    let here : ContainsKey c.args.tree.now.nodes c.args.key = key-there c.args.tree.now.nodes c.args.key but.level but.here in
    search rules

pub len-requires : goal.len-requires
len-requires g c = let few : g.row.D ≤ 3 = c.requires.but.axes in search rules

pub has_least_box-requires : goal.has_least_box-requires
has_least_box-requires g c =
    let t = c.args.tree.now in
    let but = c.requires.but in
    let few : g.row.D ≤ 3 = but.axes in
    let keys = c.requires.keys in
    let here : ContainsKey t.nodes c.args.key = key-there t.nodes c.args.key but.level but.here in
    let own = ap (λ s. length (cells_of s)) c.node_at.ensures in
    let cap = but.sound.fitted.cap in
    let some : 1 ≤ length (cells_at t.nodes c.args.key) = omega arith in
    let level = parent-level t c.args.key c.args.parent but c.requires.up in
    let above : ContainsKey t.nodes c.args.parent = key-there t.nodes c.args.parent (suc but.level) level in
    let once = named-above t c.args.key c.args.parent but c.requires.up in
    let counted : 0 < times_named c.args.key (cells_at t.nodes c.args.parent) = omega arith in
    let named : (at : ℕ) × IsNamedAt (cells_at t.nodes c.args.parent) at c.args.key = named-at c.args.key (cells_at t.nodes c.args.parent)
    (All-weaker (NamesChild t.nodes but.level c.args.parent) (λ c. c.number ≡ pos (key_of c)) (λ c is. is.names.number_is) (cells_at t.nodes c.args.parent)
    (but.sound.linked.children c.args.parent but.level level)) counted in
    let single : times_named c.args.key (cells_at t.nodes c.args.parent) ≤ 1 = omega arith in
    search rules
