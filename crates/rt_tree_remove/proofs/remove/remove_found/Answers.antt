use Rattle.std.proofs.Common.{◌≡◌, ◌+◌, ◌-◌, ◌*◌, ◌^◌, ◌≤◌, Some, vec_len, vec_capacity, arith, rules, ap, ◌∙◌}
use Rattle.rt_box.specs.Capacity.{least_fill}
use Rattle.rt_tree_node.specs.declared.arena.Arena.{Arena}
use Rattle.rt_tree_node.specs.Places.{level_at}
use Rattle.rt_tree_node.specs.Whole.{IsWhole, HasRoom, row_count}
use Rattle.rt_tree_remove.specs.Steps.{IsSoundBut, HasLeastWhereInside}
use Rattle.rt_tree_remove.proofs.Climbs.{node-there}
use Rattle.rt_tree_remove.proofs.Removed.{removes, whole-reversed, fewer-rows, ready-room, ready-pending}
use Rattle.rt_tree_remove.proofs.Inside.{inside-before}
use Rattle.rt_tree_remove.proofs.Taken.{few-axes, leaf-level}
use Rattle.rt_tree_remove.proofs.remove.remove_found.Goals as goal

pub take_row-requires : goal.take_row-requires
take_row-requires g c =
    let few : g.row.D ≤ 3 = few-axes c.args.tree.now c.args.id.now c.args.location.now.leaf c.requires.whole c.requires.idle c.requires.location.home in
    search rules

pub condense-requires : goal.condense-requires
condense-requires g c =
    let location = c.args.location.now in
    let s0 = c.args.tree.now in
    let s1 = c.take_row.new.tree in
    let leaf = location.leaf in
    let takes = c.take_row.ensures in
    let few : g.row.D ≤ 3 = few-axes s0 c.args.id.now leaf c.requires.whole c.requires.idle takes.home in
    let there = node-there s0.nodes leaf 0 (leaf-level s0 c.args.id.now leaf c.requires.whole c.requires.idle takes.home) in
    let but : IsSoundBut s1 leaf = takes.but in
    let keys : s1.nodes.capacity ≤ 2 ^ 62 = omega (arith, (takes.change there.0 there.1).room, c.requires.room.keys) in
    let bottom : level_at s1.nodes leaf ≡ Some 0 = takes.bottom in
    let product : (least_fill s1.capacity - 1) * s1.level ≡ (least_fill s0.capacity - 1) * s0.level =
    ap (λ m. (least_fill m - 1) * s1.level) takes.capacity ∙ ap (λ l. (least_fill s0.capacity - 1) * l) takes.level in
    let room : (least_fill s1.capacity - 1) * s1.level ≤ vec_capacity s1.pending = omega (arith, product, ap vec_capacity takes.pending, c.requires.pending_room) in
    let inside : HasLeastWhereInside s1.nodes leaf location.rect =
    inside-before s0 s1 c.args.id.now leaf location.at location.rect there.0 there.1 c.requires.whole takes in
    search rules

pub place_pending-requires : goal.place_pending-requires
place_pending-requires g c =
    let location = c.args.location.now in
    let s0 = c.args.tree.now in
    let s2 = c.condense.new.tree in
    let s3 : Arena g.row.D = record s2 { pending = c.turn_round.new.pending } in
    let whole : IsWhole s3 = whole-reversed s2 s3 c.turn_round.ensures.items c.condense.ensures.whole in
    let fewer = fewer-rows s0 c.take_row.new.tree s2 s3 c.args.id.now location.leaf location.at location.rect c.take_row.ensures
    c.condense.ensures c.turn_round.ensures.items c.turn_round.ensures.room in
    let old = c.requires.rows in
    let rows : row_count s3 ≤ 2 ^ 31 = omega arith in
    let room : HasRoom s3 (row_count s3) = ready-room s0 c.take_row.new.tree s2 s3 c.args.id.now location.leaf location.at
    location.rect c.take_row.ensures c.condense.ensures c.turn_round.ensures.items c.turn_round.ensures.room c.requires.room in
    let pending_room : vec_len s3.pending + 512 ≤ vec_capacity s3.pending = ready-pending s0 c.take_row.new.tree s2 s3 c.args.id.now
    location.leaf location.at location.rect c.take_row.ensures c.condense.ensures c.turn_round.ensures.items c.turn_round.ensures.room
    c.requires.pending_room in
    search rules

pub returns : goal.returns
returns g c =
    let location = c.args.location.now in
    let s2 = c.condense.new.tree in
    removes c.args.tree.now c.take_row.new.tree s2 (record s2 { pending = c.turn_round.new.pending }) c.place_pending.new.tree c.give_way.new.tree
    c.args.id.now location.leaf location.at location.rect c.requires.branched c.requires.idle
    c.take_row.ensures c.condense.ensures c.turn_round.ensures.items c.turn_round.ensures.room c.place_pending.ensures.places
    c.place_pending.ensures.none_waits c.give_way.ensures
