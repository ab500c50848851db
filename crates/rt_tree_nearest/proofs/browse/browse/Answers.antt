use Rattle.std.proofs.Common.{◌≡◌, ◌<◌, ◌≤◌, List, [], ◌∷◌, length, IfSome, rules, arith, refl, ap, sym, subst}
use Rattle.std.specs.List.Sorted.{IsPermutation}
use Rattle.std.specs.BinaryHeap.{heap_items}
use Rattle.std.specs.declared.cmp.Reverse.{Reverse}
use Rattle.std.proofs.lemmas.List.{nil_from_length}
use Rattle.std.proofs.lemmas.Result.{IfOk-weaker}
use Rattle.slab.specs.Slab.{ContainsKey}
use Rattle.rt_tree_walk.proofs.Progress.{IsSettled}
use Rattle.rt_tree_nearest.specs.declared.candidate.Branch.{Branch}
use Rattle.rt_tree_nearest.specs.declared.candidate.Candidate.{Candidate}
use Rattle.rt_tree_nearest.specs.Candidates.{items_in, IsKeptAfter, IsOrdered, IsAnswer}
use Rattle.rt_tree_nearest.proofs.Searched.{Searched}
use Rattle.rt_tree_nearest.proofs.Steps.{start, turn, stop, first-there, known-here, known-later}
use Rattle.rt_tree_nearest.proofs.Answered.{answered}
use Rattle.rt_tree_nearest.proofs.browse.browse.Goals as goal

pub loop-first-init : goal.loop-first-init
loop-first-init g c =
    let s : IsSettled c.args.tree.now = record { whole = c.requires.whole; none = c.requires.settled } in
    let q = c.args.query.now in
    let kept : List (Candidate g.row.D) = c.new.result.items in
    let branches = heap_items c.push.new.self in
    let root : Reverse Branch = record { 0 = record { distance = 0; key = c.args.tree.now.root } } in
    let moved : IsPermutation (root ∷ []) branches =
    subst (λ (es : List (Reverse Branch)). IsPermutation (root ∷ es) branches) c.new-branches.ensures.items c.in_ok-push.ensures.permutation in
    let room : length kept < q.k = omega (arith, ap length c.new.ensures.items, c.requires.some) in
    record {
      searched = start q c.args.tree.now s root branches refl refl moved kept c.new.ensures.items;
      shape = room;
      near = subst (λ (cs : List (Candidate g.row.D)). IfSome c.args.near (IsKeptAfter c.args.tree.now q cs)) (sym c.new.ensures.items) c.requires.near;
      ordered = c.in_ok-push.ensures.heap_order c.new-branches.ensures.heap_order;
    }

pub node_at-requires : goal.node_at-requires
node_at-requires g c =
    let t = c.args.tree.now in
    let s : IsSettled t = record { whole = c.requires.whole; none = c.requires.settled } in
    let few : g.row.D ≤ 3 = c.requires.few in
    let x = c.in-Some.field-0 in
    let there : ContainsKey t.nodes x.0.key = first-there c.args.query.now t s (items_in c.loop-first.kept) (heap_items c.loop-first.branches) (heap_items c.pop.new.self) x
    c.loop-first.invariant.searched c.in-Some.ensures.permutation in
    search rules

pub explore-requires : goal.explore-requires
explore-requires g c =
    let few : g.row.D ≤ 3 = c.requires.few in
    let kept = c.loop-first.invariant.searched.keeps in
    let near = known-here c.args.tree.now c.args.query.now c.loop-first.kept c.node_at.result.now c.in-Some.field-0.0.key c.loop-first.near c.node_at.ensures c.loop-first.invariant.near in
    search rules

pub loop-first-smaller : goal.loop-first-smaller
loop-first-smaller g c =
    let t = c.args.tree.now in
    let s : IsSettled t = record { whole = c.requires.whole; none = c.requires.settled } in
    let so = c.loop-first.invariant in
    let step = turn c.args.query.now t s (items_in c.loop-first.kept) (items_in c.explore.new.kept) (heap_items c.loop-first.branches) (heap_items c.pop.new.self)
    (heap_items c.explore.new.branches) c.in-Some.field-0 c.node_at.result.now so.searched c.in-Some.ensures.permutation (c.in-Some.ensures.heap_order so.ordered).0
    c.node_at.ensures c.in_ok-explore.ensures.explores.seen in
    step.shorter

pub loop-first-preserved : goal.loop-first-preserved
loop-first-preserved g c =
    let t = c.args.tree.now in
    let s : IsSettled t = record { whole = c.requires.whole; none = c.requires.settled } in
    let so = c.loop-first.invariant in
    let step = turn c.args.query.now t s (items_in c.loop-first.kept) (items_in c.explore.new.kept) (heap_items c.loop-first.branches) (heap_items c.pop.new.self)
    (heap_items c.explore.new.branches) c.in-Some.field-0 c.node_at.result.now so.searched c.in-Some.ensures.permutation (c.in-Some.ensures.heap_order so.ordered).0
    c.node_at.ensures c.in_ok-explore.ensures.explores.seen in
    record {
      searched = step.searched;
      shape = c.in_ok-explore.ensures.explores.shape;
      near = known-later t c.args.query.now (items_in c.loop-first.kept) (items_in c.explore.new.kept) (heap_items c.pop.new.self) (heap_items c.explore.new.branches)
          c.node_at.result.now c.loop-first.near c.explore.new.near c.in_ok-explore.ensures.explores.seen c.in_ok-explore.ensures.leaf c.in_ok-explore.ensures.inner so.near;
      ordered = step.ordered;
    }

pub returns-then-first-reach : goal.returns-then-first-reach
returns-then-first-reach g c =
    let t = c.args.tree.now in
    let q = c.args.query.now in
    let s : IsSettled t = record { whole = c.requires.whole; none = c.requires.settled } in
    let so = c.loop-first.invariant in
    let kept = items_in c.loop-first.kept in
    let x = c.in-Some.field-0 in
    let done : Searched q t kept [] = stop q t s kept (heap_items c.loop-first.branches) (heap_items c.pop.new.self) x c.reach.result so.searched c.in-Some.ensures.permutation
    (c.in-Some.ensures.below_top so.ordered) c.reach.ensures (omega arith) (omega arith) in
    IfOk-weaker c.ordered.result (λ rows. IsOrdered kept rows.items) (λ rows. IsAnswer t q rows.items)
    (λ rows is near beyond within. answered q t s kept done rows.items is near beyond within) c.ordered.ensures

pub returns : goal.returns
returns g c =
    let t = c.args.tree.now in
    let q = c.args.query.now in
    let s : IsSettled t = record { whole = c.requires.whole; none = c.requires.settled } in
    let so = c.loop-first.invariant in
    let kept = items_in c.loop-first.kept in
    let branches = heap_items c.loop-first.branches in
    let none : branches ≡ [] = nil_from_length branches (omega (arith, c.in_default.ensures.none, c.loop-first.branches.data.ok)) in
    let done : Searched q t kept [] = subst (λ (es : List (Reverse Branch)). Searched q t kept es) none so.searched in
    IfOk-weaker c.ordered-2.result (λ rows. IsOrdered kept rows.items) (λ rows. IsAnswer t q rows.items)
    (λ rows is near beyond within. answered q t s kept done rows.items is near beyond within) c.ordered-2.ensures
