use Rattle.std.proofs.Common.{◌≡◌, ◌+◌, ◌≤◌, ℕ, Bool, [], ◌-◌, take, append-nil, rules, refl, ap, ◌∙◌}
use Rattle.std.specs.List.{count_by, sum_by}
use Rattle.rt_tree_join.specs.declared.joining.Pair.{Pair}
use Rattle.rt_tree_join.specs.Due.{IsDue, count_due}
use Rattle.rt_tree_join.proofs.Turns.{next-due, Joining-step, steps-less, Joining-end}
use Rattle.rt_tree_join.proofs.joining.pair_due.Goals as goal

pub loop-next-init : goal.loop-next-init
loop-next-init g c = record { each = λ test. refl; nodes = c.requires.due }

pub visit-requires : goal.visit-requires
visit-requires g c =
    let total : (Pair → Bool) → ℕ = λ test. count_by test c.args.pairs.now.items + sum_by (count_due c.args.left.now c.args.right.now test) c.args.due.now.items in
    let due : IsDue c.args.left.now c.args.right.now c.in-Some.next =
    next-due c.args.left.now c.args.right.now total c.loop-next.pairs.items c.loop-next.due.items c.pop.new.self.items c.in-Some.next c.loop-next.invariant c.in-Some.ensures.items in
    let few : g.row.D ≤ 3 = c.requires.few in
    search rules

pub loop-next-smaller : goal.loop-next-smaller
loop-next-smaller g c =
    let total : (Pair → Bool) → ℕ = λ test. count_by test c.args.pairs.now.items + sum_by (count_due c.args.left.now c.args.right.now test) c.args.due.now.items in
    steps-less c.args.left.now c.args.right.now total c.loop-next.pairs.items c.loop-next.due.items c.pop.new.self.items c.in-Some.next c.loop-next.invariant c.in-Some.ensures.items
    c.visit.new.pairs.items c.visit.new.due.items c.in_ok-visit.ensures

pub loop-next-preserved : goal.loop-next-preserved
loop-next-preserved g c =
    let total : (Pair → Bool) → ℕ = λ test. count_by test c.args.pairs.now.items + sum_by (count_due c.args.left.now c.args.right.now test) c.args.due.now.items in
    Joining-step c.args.left.now c.args.right.now total c.loop-next.pairs.items c.loop-next.due.items c.pop.new.self.items c.in-Some.next c.loop-next.invariant c.in-Some.ensures.items
    c.visit.new.pairs.items c.visit.new.due.items c.in_ok-visit.ensures

pub returns-clause-pairs : goal.returns-clause-pairs
returns-clause-pairs g c =
    let total : (Pair → Bool) → ℕ = λ test. count_by test c.args.pairs.now.items + sum_by (count_due c.args.left.now c.args.right.now test) c.args.due.now.items in
    let none : c.loop-next.due.items ≡ [] =
    c.in_default.ensures.items ∙ append-nil c.pop.new.self.items ∙ c.in_default.ensures.rest
    ∙ ap (λ n. take (n - 1) c.loop-next.due.items) c.in_default.ensures.cases.0 in
    Joining-end c.args.left.now c.args.right.now total c.loop-next.pairs.items c.loop-next.due.items none c.loop-next.invariant

pub returns-clause-done : goal.returns-clause-done
returns-clause-done g c = c.in_default.ensures.rest ∙ ap (λ n. take (n - 1) c.loop-next.due.items) c.in_default.ensures.cases.0
