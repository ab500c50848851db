use Rattle.std.proofs.Common.{◌≡◌, ◌+◌, ◌^◌, ◌<◌, ◌≤◌, Some, length, vec_len, vec_capacity, ap, arith, rules}
use Rattle.rt_tree_node.specs.declared.arena.Arena.{Arena}
use Rattle.rt_tree_node.specs.Places.{level_at}
use Rattle.rt_tree_node.specs.Whole.{IsWhole, HasRoom, row_count}
use Rattle.rt_tree_remove.specs.Steps.{IsSoundButForMap, IsRoomy, HasLeastWhereInside}
use Rattle.rt_tree_remove.proofs.Moved.{but, bottom, inside, keys, roomy, ready, replaces}
use Rattle.rt_tree_remove.proofs.replace.move_row.Goals as goal

pub fit_above-requires : goal.fit_above-requires
fit_above-requires g c =
    let old = c.args.tree.now in
    let id = c.args.id.now in
    let location = c.args.location.now in
    let b = c.remove_cell.new.nodes in
    let r = c.requires in
    let t : Arena g.row.D = record old { nodes = b } in
    let is_but : IsSoundButForMap t location.leaf =
    but old id location b r.whole r.branched r.idle r.location r.alone c.leaves_facts.ensures c.remove_cell.ensures in
    let few : g.row.D ≤ 3 = is_but.1.axes in
    let at_bottom : level_at t.nodes location.leaf ≡ Some 0 =
    bottom old id location b r.whole r.branched r.idle r.location r.alone c.leaves_facts.ensures c.remove_cell.ensures in
    let is_inside : HasLeastWhereInside t.nodes location.leaf location.rect =
    inside old id location b r.whole r.branched r.idle r.location r.alone c.leaves_facts.ensures c.remove_cell.ensures in
    let few_keys : t.nodes.capacity ≤ 2 ^ 62 =
    keys old id location b r.whole r.branched r.idle r.location r.alone c.leaves_facts.ensures c.remove_cell.ensures r.room.keys in
    let is_roomy : IsRoomy t location.leaf =
    roomy old id location b r.whole r.branched r.idle r.location r.alone c.leaves_facts.ensures c.remove_cell.ensures in
    search rules

pub push_row-requires : goal.push_row-requires
push_row-requires g c =
    let rest = c.fit_above.ensures.rest in
    let room = ap (λ (t : Arena g.row.D). vec_capacity t.pending) rest in
    let len = ap (λ (t : Arena g.row.D). vec_len t.pending) rest in
    let none = ap length c.requires.idle in
    let old = c.requires.pending_room in
    let mid = c.fit_above.new.tree in
    let spare : vec_len mid.pending < vec_capacity mid.pending = omega arith in
    search rules

pub settle-requires : goal.settle-requires
settle-requires g c =
    let old = c.args.tree.now in
    let r = c.requires in
    let u : Arena g.row.D = record old { pending = c.push_row.new.cells } in
    let mid : Arena g.row.D = record c.fit_above.new.tree { pending = c.push_row.new.cells } in
    let is =
    ready old c.args.id.now c.args.location.now c.remove_cell.new.nodes r.whole r.branched r.idle r.location r.alone c.leaves_facts.ensures
    c.remove_cell.ensures c.fit_above.new.tree c.fit_above.ensures u c.args.rect.now c.facts.ensures c.push_row.ensures.items c.push_row.ensures.room r.room in
    let whole : IsWhole mid = is.whole in
    let waits : 0 < vec_len mid.pending = omega (arith, is.one_waits) in
    let rows : row_count mid ≤ 2 ^ 31 = omega (arith, is.rows, r.rows) in
    let room : HasRoom mid (row_count mid) = is.room in
    let pending_room : vec_len mid.pending + 512 ≤ vec_capacity mid.pending = omega (arith, is.pending_room, is.one_waits, r.pending_room) in
    search rules

pub returns : goal.returns
returns g c =
    let old = c.args.tree.now in
    let r = c.requires in
    let u : Arena g.row.D = record old { pending = c.push_row.new.cells } in
    replaces old c.args.id.now c.args.location.now c.remove_cell.new.nodes r.whole r.branched r.idle r.location r.alone c.leaves_facts.ensures
    c.remove_cell.ensures c.fit_above.new.tree c.fit_above.ensures u c.args.rect.now c.facts.ensures c.push_row.ensures.items c.push_row.ensures.room
    c.settle.new.tree c.settle.result c.settle.ensures.settles c.settle.ensures.turns c.settle.ensures.counts c.settle.ensures.alone
