use Rattle.std.proofs.Common.{◌≡◌, ◌≢◌, ◌<◌, ◌≤◌, length, IsSome, rules}
use Rattle.std.specs.Ordering.{int_eq}
use Rattle.indexmap.specs.IndexMap.{get as leaf_of}
use Rattle.slab.specs.Slab.{ContainsKey}
use Rattle.rt_tree_node.specs.Places.{key_of, cells_at}
use Rattle.rt_tree_place.specs.Steps.{IsPassable}
use Rattle.rt_tree_place.proofs.Entered.{pending-passable, pending-below, pending-row, pending-child, pending-apart, pending-room, entered}
use Rattle.rt_tree_place.proofs.WayDown.{node-from_level, present}
use Rattle.rt_tree_place.proofs.place.enter.Goals as goal

pub choose_node-key-requires : goal.choose_node-key-requires
choose_node-key-requires g c =
    let few = c.requires.few in
    let old = c.args.tree.now in
    let passable : IsPassable old.nodes old.root old.level = pending-passable old c.args.entry.now c.requires.pending in
    let below : c.args.entry.now.level ≤ old.level = pending-below old c.args.entry.now c.requires.pending in
    search rules

pub attach-requires : goal.attach-requires
attach-requires g c =
    let few = c.requires.few in
    let old = c.args.tree.now in
    let w = c.args.entry.now in
    let key = c.choose_node-key.result in
    let level = c.choose_node-key.ensures.level in
    let here : ContainsKey old.nodes key = present old.nodes key w.level level in
    let room : length (cells_at old.nodes key) < 52 = pending-room old w c.requires.pending key level in
    let row : w.level ≡ 0 → IsSome (leaf_of int_eq old.leaves w.cell.number) = pending-row old w c.requires.pending in
    let child : 1 ≤ w.level → ContainsKey old.nodes (key_of w.cell) = pending-child old w c.requires.pending in
    let apart : 1 ≤ w.level → key_of w.cell ≢ key = pending-apart old w c.requires.pending key level in
    search rules

pub returns : goal.returns
returns g c =
    let old = c.args.tree.now in
    let w = c.args.entry.now in
    let key = c.choose_node-key.result in
    let level = c.choose_node-key.ensures.level in
    let way = c.choose_node-key.ensures.way in
    let here = node-from_level old.nodes key w.level level in
    entered old w c.requires.pending key level c.attach.new.tree c.attach.ensures here.0 here.1 way.0 way.1 c.choose_node-key.ensures.path.0 c.choose_node-key.ensures.path.1
