use Rattle.std.proofs.Common.{◌≡◌, ℕ, ◌+◌, ◌<◌, ◌≤◌, false, List, [], ◌∷◌, ◌++◌, length, rules, arith, ap, ◌∙◌, subst, refl, inl, inr}
use Rattle.std.proofs.lemmas.List.{length-append, length-map}
use Rattle.slab.specs.Slab.{ContainsKey}
use Rattle.rt_box.specs.declared.interval.Interval.{Interval}
use Rattle.rt_tree_node.specs.Places.{inner_cells_at}
use Rattle.rt_tree_walk.specs.declared.searching.Reached.{Reached}
use Rattle.rt_tree_walk.specs.Visits.{keys_of, MarkHolds, Marks}
use Rattle.rt_tree_walk.proofs.Progress.{ProgressAfter, IsSettled, Progress-start, After-start, After-next, After-end, next-there, next-few}
use Rattle.rt_tree_walk.proofs.Fitting.{nodes-few, no-lack}
use Rattle.rt_tree_walk.proofs.Inside.{keys-end, marks-next, marks-first, marks-hold}
use Rattle.rt_tree_walk.proofs.searching.search_into.Goals as goal

pub loop-visited-init : goal.loop-visited-init
loop-visited-init g c =
    let s : IsSettled c.args.tree.now = record { whole = c.requires.whole; none = c.requires.settled } in
    let root : Reached = record { key = c.args.tree.now.root; is_inside = false } in
    let e : c.push.new.self.items ≡ root ∷ [] = c.in_ok-push.ensures.items ∙ ap (λ (xs : List Reached). xs ++ c.root.result ∷ []) (c.in_ok-reserve.ensures.items ∙ c.clear.ensures.items) ∙ ap (λ (d : Reached). d ∷ []) c.root.ensures in
    record {
      within = omega arith;
      progress = After-start c.args.tree.now c.args.window.now (keys_of c.push.new.self.items) c.args.rows.now.items s (ap keys_of e);
      marks = marks-first c.args.tree.now.nodes c.args.window.now c.args.tree.now.root c.push.new.self.items e;
      rows_capacity = omega arith;
      nodes_capacity = omega (arith, c.clear.ensures.capacity, c.in_ok-reserve.ensures.capacity, c.in_ok-push.ensures.capacity);
    }

pub visit-requires : goal.visit-requires
visit-requires g c =
    let s : IsSettled c.args.tree.now = record { whole = c.requires.whole; none = c.requires.settled } in
    let few : g.row.D ≤ 3 = c.requires.few in
    let l = c.loop-visited in
    let reached = l.reached.items in
    let next : Reached = c.index-next.result.now in
    let below : l.visited < length reached = omega (arith, c.loop-visited-test.true) in
    let held : ContainsKey c.args.tree.now.nodes next.key =
    next-there c.args.tree.now c.args.window.now s reached l.visited next below c.index-next.ensures c.args.rows.now.items l.rows.items l.invariant.progress in
    let marked : MarkHolds c.args.tree.now.nodes c.args.window.now next =
    marks-next c.args.tree.now.nodes c.args.window.now reached l.visited next below c.index-next.ensures l.invariant.marks in
    search rules

pub loop-visited-smaller : goal.loop-visited-smaller
loop-visited-smaller g c =
    let s : IsSettled c.args.tree.now = record { whole = c.requires.whole; none = c.requires.settled } in
    let l = c.loop-visited in
    let few = next-few c.args.tree.now c.args.window.now s l.reached.items l.visited c.index-next.result.now (omega (arith, c.loop-visited-test.true)) c.index-next.ensures
    c.args.rows.now.items l.rows.items l.invariant.progress in
    omega (arith, few)

pub loop-visited-preserved : goal.loop-visited-preserved
loop-visited-preserved g c =
    let s : IsSettled c.args.tree.now = record { whole = c.requires.whole; none = c.requires.settled } in
    let l = c.loop-visited in
    let reached = l.reached.items in
    let reached1 = c.visit.new.reached.items in
    let next : Reached = c.index-next.result.now in
    let below : l.visited < length reached = omega (arith, c.loop-visited-test.true) in
    let marked = subst (λ (w : List Interval). Marks w (inner_cells_at c.args.tree.now.nodes next.key) reached reached1) c.new-query.ensures.window c.in_ok-visit.ensures.marks in
    record {
      within = omega (arith, below, ap length marked.is, length-append reached marked.more);
      progress = After-next c.args.tree.now c.args.window.now s reached l.visited next below c.index-next.ensures c.args.rows.now.items l.rows.items l.invariant.progress
          c.visit.new.rows.items (keys_of reached1) c.new-query.result.window c.new-query.ensures.window c.in_ok-visit.ensures.ok;
      marks = marks-hold c.args.tree.now s.whole c.args.window.now next.key reached reached1 marked l.invariant.marks;
      rows_capacity = omega (arith, c.in_ok-visit.ensures.rows_capacity, l.invariant.rows_capacity);
      nodes_capacity = omega (arith, c.in_ok-visit.ensures.nodes_capacity, l.invariant.nodes_capacity);
    }

pub returns-clause-ok : goal.returns-clause-ok
returns-clause-ok g c =
    let s : IsSettled c.args.tree.now = record { whole = c.requires.whole; none = c.requires.settled } in
    let l = c.loop-visited in
    let none = keys-end l.reached.items l.visited (omega (arith, c.loop-visited-test.false)) in
    After-end c.args.tree.now c.args.window.now s c.args.rows.now.items l.rows.items l.visited
    (subst (λ (ks : List ℕ). ProgressAfter c.args.tree.now c.args.window.now ks c.args.rows.now.items l.rows.items l.visited) none l.invariant.progress)

pub returns-in_err-push-clause-succeeds : goal.returns-in_err-push-clause-succeeds
returns-in_err-push-clause-succeeds g c = λ room.
    let t = c.args.tree.now in
    let s : IsSettled t = record { whole = c.requires.whole; none = c.requires.settled } in
    let some = nodes-few t c.args.window.now s (t.root ∷ []) [] 0 (Progress-start t c.args.window.now (t.root ∷ []) s refl) in
    absurd (omega (arith, some, room.nodes_fit, c.clear.ensures.capacity, c.in_ok-reserve.ensures.capacity, c.in_ok-reserve.ensures.len, c.clear.ensures.len, c.in_err-push.ensures.full))

pub returns-in_err-visit-clause-succeeds : goal.returns-in_err-visit-clause-succeeds
returns-in_err-visit-clause-succeeds g c = λ room.
    let t = c.args.tree.now in
    let s : IsSettled t = record { whole = c.requires.whole; none = c.requires.settled } in
    let l = c.loop-visited in
    let reached = l.reached.items in
    let next : Reached = c.index-next.result.now in
    let below : l.visited < length reached = omega (arith, c.loop-visited-test.true) in
    let lacks = c.in_err-visit.ensures.full in
    let so = After-next t c.args.window.now s reached l.visited next below c.index-next.ensures c.args.rows.now.items l.rows.items l.invariant.progress
    lacks.rows1 lacks.keys1 c.new-query.result.window c.new-query.ensures.window lacks.went in
    let long : l.visited + 1 ≤ length lacks.keys1 =
    omega (arith, below, ap length lacks.went.children_are.is, length-append (keys_of reached) lacks.went.children_are.more, length-map reached (λ (d : Reached). d.key)) in
    let fits = no-lack t c.args.window.now s c.args.rows.now c.args.reached.now lacks.rows1 lacks.keys1 (l.visited + 1) room so long in
    elim lacks.full [
      | inl rows ↦ absurd (omega (arith, rows, fits.0, l.invariant.rows_capacity))
      | inr nodes ↦ absurd (omega (arith, nodes, fits.1, l.invariant.nodes_capacity))
    ]
