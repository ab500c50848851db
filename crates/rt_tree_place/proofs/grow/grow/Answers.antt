use Rattle.std.proofs.Common.{◌≡◌, suc, ◌+◌, ◌^◌, ◌≤◌, length, arith, refl, rules, ap}
use Rattle.slab.specs.Slab.{HasRoomFor}
use Rattle.rt_tree_node.specs.Places.{cells_of, cells_at}
use Rattle.rt_tree_place.specs.Steps.{IsPair}
use Rattle.rt_tree_place.proofs.Grown.{above-full, above-pair, above-relieved, root-split}
use Rattle.rt_tree_place.proofs.Lifted.{mid-parent_level}
use Rattle.rt_tree_place.proofs.WayDown.{node-from_level}
use Rattle.rt_tree_place.proofs.grow.grow.Goals as goal

pub divide-requires : goal.divide-requires
divide-requires g c =
    let few = c.requires.few in
    let t = c.args.tree.now in
    let above = c.raise.new.tree in
    let count = ap (λ s. length (cells_of s)) c.node_at.ensures in
    let long : length (cells_at t.nodes t.root) ≡ t.capacity + 1 =
    omega (arith, count, c.requires.rising.most, c.if-len-greatest.false, c.len.ensures.value, c.greatest.ensures.value) in
    let pair : IsPair above t.root above.root = above-pair t c.requires.rising above c.raise.ensures long in
    let full : length (cells_at above.nodes t.root) ≡ above.capacity + 1 = above-full t c.requires.rising above c.raise.ensures long in
    let room : HasRoomFor above.nodes 1 = omega (arith, c.raise.ensures.len, c.raise.ensures.room, c.requires.room) in
    let keys : above.nodes.capacity ≤ 2 ^ 62 = omega (arith, c.raise.ensures.room, c.requires.keys) in
    search rules

pub returns : goal.returns
returns g c =
    let t = c.args.tree.now in
    let above = c.raise.new.tree in
    let mid = c.divide.new.tree in
    let rising = c.requires.rising in
    let count = ap (λ s. length (cells_of s)) c.node_at.ensures in
    let long : length (cells_at t.nodes t.root) ≡ t.capacity + 1 =
    omega (arith, count, rising.most, c.if-len-greatest.false, c.len.ensures.value, c.greatest.ensures.value) in
    let here = node-from_level mid.nodes above.root (suc c.raise.ensures.rising.level)
    (mid-parent_level above t.root above.root c.raise.ensures.rising c.raise.ensures.up mid (above-relieved t rising above c.raise.ensures long mid c.divide.ensures)) in
    root-split t rising above c.raise.ensures long mid c.divide.ensures c.refit.new.nodes here.0 here.1 (c.refit.ensures here.0 here.1) c.args.work.now _ refl (omega arith) refl
