use Rattle.std.proofs.Common.{◌≡◌, ◌≤◌, ◌-◌, [], All, take, append-nil, rules, ap, ◌∙◌}
use Rattle.rt_tree_join.specs.Due.{IsSubtree, IsDue}
use Rattle.rt_tree_walk.proofs.Progress.{IsSettled}
use Rattle.rt_tree_join.proofs.Within.{pairing-start, next-within, pairing-step, nodes-fewer, pairing-end}
use Rattle.rt_tree_join.proofs.Ordered.{itself-ordered}
use Rattle.rt_tree_join.proofs.itself.join_self.Goals as goal

pub loop-next-init : goal.loop-next-init
loop-next-init g c = record {
  pairing = pairing-start c.args.tree.now c.new-pairs.result.items c.in_ok-nodes.nodes.items c.new-pairs.ensures.items c.in_ok-nodes.ensures;
  none = c.new-due.ensures.items;
}

pub visit_within-requires : goal.visit_within-requires
visit_within-requires g c =
    let few : g.row.D ≤ 3 = c.requires.few in
    let next : IsSubtree c.args.tree.now c.in-Some.next =
    next-within c.args.tree.now c.loop-next.pairs.items c.loop-next.nodes.items c.pop.new.self.items c.in-Some.next c.loop-next.invariant.pairing c.in-Some.ensures.items in
    let none : c.loop-next.due.items ≡ [] = c.loop-next.invariant.none in
    search rules

pub pair_due-requires : goal.pair_due-requires
pair_due-requires g c =
    let few : g.row.D ≤ 3 = c.requires.few in
    let due : All (IsDue c.args.tree.now c.args.tree.now) c.visit_within.new.due.items = c.in_ok-visit_within.ensures.dues in
    search rules

pub loop-next-smaller : goal.loop-next-smaller
loop-next-smaller g c =
    nodes-fewer c.args.tree.now c.loop-next.pairs.items c.loop-next.nodes.items c.pop.new.self.items c.in-Some.next c.loop-next.invariant.pairing c.in-Some.ensures.items
    c.visit_within.new.pairs.items c.pair_due.new.pairs.items c.visit_within.new.nodes.items c.visit_within.new.due.items c.in_ok-visit_within.ensures

pub loop-next-preserved : goal.loop-next-preserved
loop-next-preserved g c = record {
  pairing = pairing-step c.args.tree.now c.loop-next.pairs.items c.loop-next.nodes.items c.pop.new.self.items c.in-Some.next c.loop-next.invariant.pairing c.in-Some.ensures.items
      c.visit_within.new.pairs.items c.pair_due.new.pairs.items c.visit_within.new.nodes.items c.visit_within.new.due.items c.in_ok-visit_within.ensures
      c.in_ok-pair_due.ensures.pairs;
  none = c.in_ok-pair_due.ensures.done;
}

pub returns : goal.returns
returns g c =
    let t = c.args.tree.now in
    let s : IsSettled t = record { whole = c.requires.whole; none = c.requires.settled } in
    let none : c.loop-next.nodes.items ≡ [] =
    c.in_default.ensures.items ∙ append-nil c.pop.new.self.items ∙ c.in_default.ensures.rest
    ∙ ap (λ n. take (n - 1) c.loop-next.nodes.items) c.in_default.ensures.cases.0 in
    itself-ordered t s c.loop-next.pairs.items c.put_in_order.new.pairs.items
    (pairing-end t c.loop-next.pairs.items c.loop-next.nodes.items none c.loop-next.invariant.pairing) c.put_in_order.ensures
