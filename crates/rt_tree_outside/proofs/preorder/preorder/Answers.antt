use Rattle.std.proofs.Common.{◌≡◌, ℕ, ◌≤◌, List, [], ◌∷◌, ◌++◌, ◌-◌, take, append-nil, rules, ap, ◌∙◌}
use Rattle.slab.specs.Slab.{ContainsKey}
use Rattle.rt_tree_walk.proofs.Progress.{IsSettled}
use Rattle.rt_tree_walk.proofs.Due.{IsListing-start, IsListing-step, IsListing-end, listing-there, due-less}
use Rattle.rt_tree_outside.proofs.preorder.preorder.Goals as goal

pub loop-key-init : goal.loop-key-init
loop-key-init g c =
    let s : IsSettled c.args.tree.now = record { whole = c.requires.whole; none = c.requires.settled } in
    IsListing-start c.args.tree.now s c.new-order.result.items c.push.new.self.items c.new-order.ensures.items
    (c.in_ok-push.ensures.items ∙ ap (λ (xs : List ℕ). xs ++ c.args.tree.now.root ∷ []) c.new-keys.ensures.items)

pub list_next-requires : goal.list_next-requires
list_next-requires g c =
    let s : IsSettled c.args.tree.now = record { whole = c.requires.whole; none = c.requires.settled } in
    let few : g.row.D ≤ 3 = c.requires.few in
    let held : ContainsKey c.args.tree.now.nodes c.in-Some.key =
    listing-there c.args.tree.now s c.loop-key.order.items c.loop-key.keys.items c.pop.new.self.items c.in-Some.key c.loop-key.invariant c.in-Some.ensures.items in
    search rules

pub loop-key-smaller : goal.loop-key-smaller
loop-key-smaller g c =
    let s : IsSettled c.args.tree.now = record { whole = c.requires.whole; none = c.requires.settled } in
    due-less c.args.tree.now s c.loop-key.order.items c.loop-key.keys.items c.pop.new.self.items c.in-Some.key c.loop-key.invariant c.in-Some.ensures.items
    c.list_next.new.order.items c.list_next.new.keys.items c.in_ok-list_next.ensures.order c.in_ok-list_next.ensures.keys

pub loop-key-preserved : goal.loop-key-preserved
loop-key-preserved g c =
    let s : IsSettled c.args.tree.now = record { whole = c.requires.whole; none = c.requires.settled } in
    IsListing-step c.args.tree.now s c.loop-key.order.items c.loop-key.keys.items c.pop.new.self.items c.in-Some.key c.loop-key.invariant c.in-Some.ensures.items
    c.list_next.new.order.items c.list_next.new.keys.items c.in_ok-list_next.ensures.order c.in_ok-list_next.ensures.keys

pub returns : goal.returns
returns g c =
    let none : c.loop-key.keys.items ≡ [] =
    c.in_default.ensures.items ∙ append-nil c.pop.new.self.items ∙ c.in_default.ensures.rest
    ∙ ap (λ n. take (n - 1) c.loop-key.keys.items) c.in_default.ensures.cases.0 in
    IsListing-end c.args.tree.now c.loop-key.order.items c.loop-key.keys.items none c.loop-key.invariant
