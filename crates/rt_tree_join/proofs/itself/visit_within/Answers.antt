use Rattle.std.proofs.Common.{◌≡◌, ◌<◌, ◌≤◌, suc, ◌-◌, arith, rules, refl}
use Rattle.std.proofs.lemmas.Result.{on_ok_weaker}
use Rattle.rt_tree_walk.proofs.Progress.{IsSettled}
use Rattle.rt_tree_join.proofs.Below.{node-level}
use Rattle.rt_tree_join.proofs.Later.{on-ok-both}
use Rattle.rt_tree_join.proofs.Within.{splits-inner, splits-leaf}
use Rattle.rt_tree_join.proofs.itself.visit_within.Goals as goal

pub node_at-node-requires : goal.node_at-node-requires
node_at-node-requires g c =
    let few : g.row.D ≤ 3 = c.requires.few in
    let there = c.requires.next.there in
    search rules

pub open_within-requires : goal.open_within-requires
open_within-requires g c =
    let few : g.row.D ≤ 3 = c.requires.few in
    let next = c.args.next.now in
    let node = c.node_at-node.result.now in
    let level = node-level c.args.tree.now next.key next.level node c.node_at-node.ensures c.requires.next.there in
    let high : 0 < node.level = omega (arith, level, c.if-next-gt0.true) in
    search rules

pub pair_within-requires : goal.pair_within-requires
pair_within-requires g c = let few : g.row.D ≤ 3 = c.requires.few in search rules

pub returns-then-next-gt0 : goal.returns-then-next-gt0
returns-then-next-gt0 g c =
    let t = c.args.tree.now in
    let s : IsSettled t = record { whole = c.requires.whole; none = c.requires.settled } in
    let next = c.args.next.now in
    let high : next.level ≡ suc (next.level - 1) = omega (arith, c.if-next-gt0.true) in
    on-ok-both c.open_within.result
    (λ nodes due. splits-inner t s next c.requires.next c.node_at-node.result.now c.node_at-node.ensures c.args.pairs.now.items c.args.pairs.now.items
    c.args.nodes.now.items c.open_within.new.nodes.items c.args.due.now.items c.open_within.new.due.items c.requires.none (next.level - 1) high refl nodes due)
    c.open_within.ensures.nodes c.open_within.ensures.due

pub returns : goal.returns
returns g c =
    let t = c.args.tree.now in
    let s : IsSettled t = record { whole = c.requires.whole; none = c.requires.settled } in
    let next = c.args.next.now in
    let low : next.level ≡ 0 = omega (arith, c.if-next-gt0.false) in
    on_ok_weaker c.pair_within.result
    (λ is. splits-leaf t s next c.requires.next c.node_at-node.result.now c.node_at-node.ensures c.args.pairs.now.items c.pair_within.new.pairs.items
    c.args.nodes.now.items c.args.nodes.now.items c.args.due.now.items c.args.due.now.items c.requires.none low is refl refl)
    c.pair_within.ensures
