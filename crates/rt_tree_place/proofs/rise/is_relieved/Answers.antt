use Rattle.std.proofs.Common.{ℕ, suc, ◌≤◌, length, rules}
use Rattle.slab.specs.Slab.{ContainsKey}
use Rattle.rt_tree_node.specs.Places.{times_named, cells_at}
use Rattle.rt_tree_place.specs.Steps.{IsNamedAt}
use Rattle.rt_tree_place.proofs.Lifted.{parent-level, rising-named_at, rising-once}
use Rattle.rt_tree_place.proofs.WayDown.{present}
use Rattle.rt_tree_place.proofs.rise.is_relieved.Goals as goal

pub has_least_box-requires : goal.has_least_box-requires
has_least_box-requires g c =
    let few = c.requires.few in
    let t = c.args.tree.now in
    let rising = c.requires.rising in
    let keys = c.requires.keys in
    let here : ContainsKey t.nodes c.args.key = present t.nodes c.args.key rising.level rising.here in
    let some : 1 ≤ length (cells_at t.nodes c.args.key) = rising.some in
    let above : ContainsKey t.nodes c.args.parent = present t.nodes c.args.parent (suc rising.level) (parent-level t c.args.key c.args.parent rising c.requires.up) in
    let named : (at : ℕ) × IsNamedAt (cells_at t.nodes c.args.parent) at c.args.key = rising-named_at t c.args.key c.args.parent rising c.requires.up in
    let once : times_named c.args.key (cells_at t.nodes c.args.parent) ≤ 1 = rising-once t c.args.key c.args.parent rising c.requires.up in
    search rules
