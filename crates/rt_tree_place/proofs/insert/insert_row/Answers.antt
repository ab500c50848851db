use Rattle.std.proofs.Common.{◌+◌, ◌^◌, ◌<◌, ◌≤◌, vec_len, vec_capacity, arith, rules}
use Rattle.rt_tree_node.specs.declared.cell.Cell.{Cell}
use Rattle.rt_tree_node.specs.Whole.{IsWhole, HasRoom, row_count}
use Rattle.rt_tree_place.proofs.NewRow.{waits-alone, whole-awaiting, rows-awaiting, room-awaiting, waits-one}
use Rattle.rt_tree_place.proofs.Inserted.{inserts}
use Rattle.rt_tree_place.proofs.insert.insert_row.Goals as goal

pub settle-requires : goal.settle-requires
settle-requires g c =
    let old = c.args.tree.now in
    let mid = c.await_leaf.new.tree in
    let cell : Cell g.row.D = record { number = c.args.id.now; rect = c.args.rect.now } in
    let whole : IsWhole mid = whole-awaiting old mid cell c.await_leaf.ensures c.requires.idle c.requires.whole c.requires.absent c.facts.ensures in
    let one = waits-one old mid cell c.await_leaf.ensures c.requires.idle in
    let waits : 0 < vec_len mid.pending = omega arith in
    let rows : row_count mid ≤ 2 ^ 31 = omega (arith, rows-awaiting old mid cell c.await_leaf.ensures c.requires.idle) in
    let room : HasRoom mid (row_count mid) = room-awaiting old mid cell c.await_leaf.ensures c.requires.idle c.requires.room in
    let pending_room : vec_len mid.pending + 512 ≤ vec_capacity mid.pending = omega arith in
    search rules

pub returns : goal.returns
returns g c =
    let old = c.args.tree.now in
    let mid = c.await_leaf.new.tree in
    let cell : Cell g.row.D = record { number = c.args.id.now; rect = c.args.rect.now } in
    inserts old mid c.settle.new.tree cell c.settle.result c.await_leaf.ensures c.requires.idle c.settle.ensures.settles c.settle.ensures.turns c.settle.ensures.counts
    (c.settle.ensures.alone cell (waits-alone old mid cell c.await_leaf.ensures c.requires.idle)) c.requires.branched
