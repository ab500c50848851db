use Rattle.std.proofs.Common.{ℕ, suc, ◌+◌, ◌^◌, ◌≤◌, length, arith, rules}
use Rattle.slab.specs.Slab.{ContainsKey}
use Rattle.rt_box.specs.Capacity.{least_fill}
use Rattle.rt_tree_node.specs.Places.{cells_at}
use Rattle.rt_tree_place.specs.Steps.{IsPair, IsNamedAt}
use Rattle.rt_tree_place.proofs.Lifted.{key-not_root, rising-pair, mid-key_level, mid-parent_level, mid-some, mid-named_at, lifted}
use Rattle.rt_tree_place.proofs.WayDown.{node-from_level, present}
use Rattle.rt_tree_place.proofs.rise.lift.Goals as goal

pub relieve-requires : goal.relieve-requires
relieve-requires g c =
    let few = c.requires.few in
    let old = c.args.tree.now in
    let rising = c.requires.rising in
    let pair : IsPair old c.args.key c.args.parent = rising-pair old c.args.key c.args.parent rising c.requires.up in
    let filled : least_fill old.capacity ≤ length (cells_at old.nodes c.args.key) = rising.filled (key-not_root old c.args.key c.args.parent rising c.requires.up) in
    let most : length (cells_at old.nodes c.args.key) ≤ old.capacity + 1 = rising.most in
    let room = c.requires.room in
    let keys = c.requires.keys in
    let height = c.requires.height in
    let pending_room = c.requires.pending_room in
    let splits = c.requires.splits in
    let reinsertions = c.requires.reinsertions in
    search rules

pub refit-requires : goal.refit-requires
refit-requires g c =
    let few = c.requires.few in
    let old = c.args.tree.now in
    let mid = c.relieve.new.tree in
    let rising = c.requires.rising in
    let r = c.relieve.ensures.relieves in
    let keys : mid.nodes.capacity ≤ 2 ^ 62 = omega (arith, r.trims.room, c.requires.keys) in
    let here : ContainsKey mid.nodes c.args.key = present mid.nodes c.args.key rising.level (mid-key_level old c.args.key c.args.parent rising c.requires.up mid r) in
    let some : 1 ≤ length (cells_at mid.nodes c.args.key) = mid-some old c.args.key c.args.parent rising c.requires.up mid r in
    let above : ContainsKey mid.nodes c.args.parent = present mid.nodes c.args.parent (suc rising.level) (mid-parent_level old c.args.key c.args.parent rising c.requires.up mid r) in
    let named : (at : ℕ) × IsNamedAt (cells_at mid.nodes c.args.parent) at c.args.key = mid-named_at old c.args.key c.args.parent rising c.requires.up mid r in
    search rules

pub returns : goal.returns
returns g c =
    let old = c.args.tree.now in
    let mid = c.relieve.new.tree in
    let rising = c.requires.rising in
    let r = c.relieve.ensures.relieves in
    let above = node-from_level mid.nodes c.args.parent (suc rising.level) (mid-parent_level old c.args.key c.args.parent rising c.requires.up mid r) in
    lifted old c.args.key c.args.parent rising c.requires.up mid r c.refit.new.nodes above.0 above.1 (c.refit.ensures above.0 above.1)
    c.args.marks.now c.relieve.new.marks c.args.work.now c.relieve.new.work c.relieve.ensures.treats
