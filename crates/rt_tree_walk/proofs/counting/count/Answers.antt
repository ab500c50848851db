use Rattle.std.proofs.Common.{◌≡◌, ℕ, ◌+◌, ◌<◌, ◌≤◌, false, List, [], ◌∷◌, ◌++◌, drop, length, rules, arith, ap, ◌∙◌, subst}
use Rattle.std.proofs.lemmas.List.{length-append}
use Rattle.slab.specs.Slab.{ContainsKey}
use Rattle.rt_box.specs.declared.interval.Interval.{Interval}
use Rattle.rt_tree_node.specs.Below.{HangTogether}
use Rattle.rt_tree_node.specs.Places.{inner_cells_at}
use Rattle.rt_tree_walk.specs.declared.searching.Reached.{Reached}
use Rattle.rt_tree_walk.specs.Visits.{keys_of, MarkHolds, Marks}
use Rattle.rt_tree_walk.proofs.Progress.{IsSettled, settled-linked}
use Rattle.rt_tree_walk.proofs.Counted.{Counting, Counting-start, Counting-few, Counting-end, Counting-next, counted-there, ahead-next}
use Rattle.rt_tree_walk.proofs.Inside.{keys-end, marks-next, marks-first, marks-hold}
use Rattle.rt_tree_walk.proofs.counting.count.Goals as goal

pub loop-visited-init : goal.loop-visited-init
loop-visited-init g c =
    let s : IsSettled c.args.tree.now = record { whole = c.requires.whole; none = c.requires.settled } in
    let root : Reached = record { key = c.args.tree.now.root; is_inside = false } in
    let e : c.push.new.self.items ≡ root ∷ [] = c.in_ok-push.ensures.items ∙ ap (λ (xs : List Reached). xs ++ c.root.result ∷ []) c.in_ok-reached.ensures.items ∙ ap (λ (d : Reached). d ∷ []) c.root.ensures in
    record {
      within = omega arith;
      progress = Counting-start c.args.tree.now c.args.window.now (keys_of c.push.new.self.items) s (ap keys_of e);
      marks = marks-first c.args.tree.now.nodes c.args.window.now c.args.tree.now.root c.push.new.self.items e;
    }

pub visit-requires : goal.visit-requires
visit-requires g c =
    let s : IsSettled c.args.tree.now = record { whole = c.requires.whole; none = c.requires.settled } in
    let few : g.row.D ≤ 3 = c.requires.few in
    let l = c.loop-visited in
    let reached = l.reached.items in
    let next : Reached = c.index-next.result.now in
    let below : l.visited < length reached = omega (arith, c.loop-visited-test.true) in
    let held : ContainsKey c.args.tree.now.nodes next.key =
    counted-there c.args.tree.now c.args.window.now s reached l.visited next below c.index-next.ensures l.count l.invariant.progress in
    let marked : MarkHolds c.args.tree.now.nodes c.args.window.now next =
    marks-next c.args.tree.now.nodes c.args.window.now reached l.visited next below c.index-next.ensures l.invariant.marks in
    let joined : HangTogether c.args.tree.now.nodes = record { root = c.args.tree.now.root; level = c.args.tree.now.level; linked = settled-linked c.args.tree.now s } in
    search rules

pub overflow_add-count : goal.overflow_add-count
overflow_add-count g c =
    let s : IsSettled c.args.tree.now = record { whole = c.requires.whole; none = c.requires.settled } in
    let l = c.loop-visited in
    let reached1 = c.visit.new.reached.items in
    let n = c.in_ok-count.field-0 in
    let step = Counting-next c.args.tree.now c.args.window.now s l.reached.items l.visited c.index-next.result.now (omega (arith, c.loop-visited-test.true)) c.index-next.ensures l.count
    l.invariant.progress n reached1 c.new-query.result.window c.new-query.ensures.window c.in_ok-count.ensures.count in
    let few = Counting-few c.args.tree.now c.args.window.now s (drop (l.visited + 1) (keys_of reached1)) (l.count + n) step in
    let small = c.requires.small in
    omega arith

pub loop-visited-smaller : goal.loop-visited-smaller
loop-visited-smaller g c =
    let s : IsSettled c.args.tree.now = record { whole = c.requires.whole; none = c.requires.settled } in
    let l = c.loop-visited in
    ahead-next c.args.tree.now c.args.window.now s l.reached.items l.visited c.index-next.result.now (omega (arith, c.loop-visited-test.true)) c.index-next.ensures l.count
    l.invariant.progress c.in_ok-count.field-0 c.visit.new.reached.items c.new-query.result.window c.new-query.ensures.window c.in_ok-count.ensures.count

pub loop-visited-preserved : goal.loop-visited-preserved
loop-visited-preserved g c =
    let s : IsSettled c.args.tree.now = record { whole = c.requires.whole; none = c.requires.settled } in
    let l = c.loop-visited in
    let reached = l.reached.items in
    let reached1 = c.visit.new.reached.items in
    let next : Reached = c.index-next.result.now in
    let below : l.visited < length reached = omega (arith, c.loop-visited-test.true) in
    let marked = subst (λ (w : List Interval). Marks w (inner_cells_at c.args.tree.now.nodes next.key) reached reached1) c.new-query.ensures.window c.in_ok-count.ensures.marks in
    record {
      within = omega (arith, below, ap length marked.is, length-append reached marked.more);
      progress = Counting-next c.args.tree.now c.args.window.now s reached l.visited next below c.index-next.ensures l.count
          l.invariant.progress c.in_ok-count.field-0 reached1 c.new-query.result.window c.new-query.ensures.window c.in_ok-count.ensures.count;
      marks = marks-hold c.args.tree.now s.whole c.args.window.now next.key reached reached1 marked l.invariant.marks;
    }

pub returns : goal.returns
returns g c =
    let s : IsSettled c.args.tree.now = record { whole = c.requires.whole; none = c.requires.settled } in
    let l = c.loop-visited in
    let none = keys-end l.reached.items l.visited (omega (arith, c.loop-visited-test.false)) in
    Counting-end c.args.tree.now c.args.window.now s l.count
    (subst (λ (ks : List ℕ). Counting c.args.tree.now c.args.window.now ks l.count) none l.invariant.progress)
