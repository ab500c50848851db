use Rattle.std.proofs.Common.{◌+◌, ◌^◌, ◌<◌, ◌≤◌, vec_len, vec_capacity, arith, rules}
use Rattle.slab.specs.Slab.{HasRoomFor}
use Rattle.rt_tree_node.specs.Whole.{IsWhole}
use Rattle.rt_tree_place.proofs.Turns.{progress-none, may-turn, measure-falls, progress-turn, rows-bounded, settles-end, counts-end, row-end}
use Rattle.rt_tree_place.proofs.place.settle.Goals as goal

pub loop-tree-init : goal.loop-tree-init
loop-tree-init g c = progress-none c.args.tree.now c.args.base c.requires.whole c.requires.waits

pub place_last-requires : goal.place_last-requires
place_last-requires g c =
    let t = c.loop-tree.tree in
    let ready = may-turn c.args.tree.now t c.args.base c.loop-tree.marks c.loop-tree.work c.loop-tree.invariant c.requires.whole (omega arith)
    c.requires.rows c.requires.room c.requires.pending_room in
    let few : g.row.D ≤ 3 = ready.axes in
    let whole : IsWhole t = c.loop-tree.invariant.whole in
    let waits : 1 ≤ vec_len t.pending = omega arith in
    let height : t.level ≤ 30 = ready.height in
    let room : HasRoomFor t.nodes 32 = ready.room in
    let keys : t.nodes.capacity ≤ 2 ^ 62 = ready.keys in
    let pending_room : vec_len t.pending + 15 ≤ vec_capacity t.pending = ready.pending_room in
    let placements : c.loop-tree.work.placements + 1 < 2 ^ 32 = ready.placements in
    let splits : c.loop-tree.work.splits ≤ 2 ^ 31 = ready.splits in
    let reinsertions : c.loop-tree.work.reinsertions ≤ 2 ^ 31 = ready.reinsertions in
    search rules

pub loop-tree-smaller : goal.loop-tree-smaller
loop-tree-smaller g c =
    let t = c.loop-tree.tree in
    let old = c.args.tree.now in
    measure-falls old t c.place_last.new.tree c.args.base c.loop-tree.marks c.place_last.new.marks c.loop-tree.work c.place_last.new.work c.loop-tree.invariant (omega arith)
    c.place_last.ensures (rows-bounded old t c.args.base c.loop-tree.marks c.loop-tree.work c.loop-tree.invariant c.requires.rows)

pub loop-tree-preserved : goal.loop-tree-preserved
loop-tree-preserved g c =
    progress-turn c.args.tree.now c.loop-tree.tree c.place_last.new.tree c.args.base c.loop-tree.marks c.place_last.new.marks c.loop-tree.work c.place_last.new.work
    c.loop-tree.invariant (omega arith) c.place_last.ensures

pub returns-clause-settles : goal.returns-clause-settles
returns-clause-settles g c =
    settles-end c.args.tree.now c.loop-tree.tree c.args.base c.loop-tree.marks c.loop-tree.work c.loop-tree.invariant (omega arith)

pub returns-clause-counts : goal.returns-clause-counts
returns-clause-counts g c =
    counts-end c.args.tree.now c.loop-tree.tree c.args.base c.loop-tree.marks c.loop-tree.work c.loop-tree.invariant (omega arith)

pub returns-clause-alone : goal.returns-clause-alone
returns-clause-alone g c =
    row-end c.args.tree.now c.loop-tree.tree c.args.base c.loop-tree.marks c.loop-tree.work c.loop-tree.invariant c.requires.waits (omega arith)

pub returns-clause-turns : goal.returns-clause-turns
returns-clause-turns g c = (c.loop-tree.marks, c.loop-tree.invariant.turns)
