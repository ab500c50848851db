-- How far a join has come.
use Rattle.std.proofs.Common.{◌≡◌, ℕ, ◌+◌, ◌<◌, Bool, List, [], ◌∷◌, ◌++◌, arith, ap, sym, ◌∙◌, subst}
use Rattle.std.specs.List.{All, count_by, sum_by}
use Rattle.std.proofs.lemmas.List.Elements.{All-nil, All-cons, All-head, All-append}
use Rattle.std.proofs.lemmas.List.Sums.{sum_by-append, sum_by_push, sum_by-cons}
use Rattle.rt_tree_node.specs.declared.arena.Arena.{Arena}
use Rattle.rt_tree_node.specs.Places.{cells_at, hull_at}
use Rattle.rt_tree_node.proofs.Links.{All-left, All-right}
use Rattle.rt_tree_walk.specs.declared.searching.Row.{Row}
use Rattle.rt_tree_walk.proofs.Progress.{IsSettled}
use Rattle.rt_tree_walk.specs.Rows.{rows_in}
use Rattle.rt_tree_join.specs.declared.due.Due.{Due}
use Rattle.rt_tree_join.specs.declared.due.Subtree.{Subtree}
use Rattle.rt_tree_join.specs.declared.joining.Pair.{Pair}
use Rattle.rt_tree_join.specs.Join.{has_ids, touching_pairs, Joins}
use Rattle.rt_tree_join.specs.Due.{IsDue, count_due, steps_due, StartsWith, Goes}
use Rattle.rt_tree_walk.proofs.Below.{rows-none}
use Rattle.rt_tree_join.proofs.Below.{whole-tree}
use Rattle.rt_tree_join.proofs.Counting.{right-none}
use Rattle.rt_tree_join.proofs.Once.{pairs-once}

module _ {D : ℕ} where
  -- the pairs so far and those below what is due are as many as there are in all
  pub record Joining (t u : Arena D) (total : (Pair → Bool) → ℕ) (pairs : List Pair) (due : List (Due D)) : Type 0 where
    pub each : (test : Pair → Bool) → count_by test pairs + sum_by (count_due t u test) due ≡ total test
    pub nodes : All (IsDue t u) due

  module _ (t u : Arena D) where
    -- ---- the start
    pub starts-whole : IsSettled t → IsSettled u → (due : List (Due D)) (left right : Subtree D) →
        left ≡ record { key = t.root; level = t.level; rect = hull_at t.nodes t.root } →
        right ≡ record { key = u.root; level = u.level; rect = hull_at u.nodes u.root } → due ≡ record { left = left; right = right } ∷ [] → StartsWith t u due
    starts-whole s v due left right e f is =
        let first : Due D = record {
          left = record { key = t.root; level = t.level; rect = hull_at t.nodes t.root };
          right = record { key = u.root; level = u.level; rect = hull_at u.nodes u.root };
        } in
        let same : due ≡ first ∷ [] = cc in
        subst (StartsWith t u) (sym same) (record {
          each = λ test. omega (arith, sum_by-cons (count_due t u test) first []);
          nodes = All-cons (IsDue t u) first [] (record { left = whole-tree t s; right = whole-tree u v }) (All-nil (IsDue t u));
        })

    starts-none : (due : List (Due D)) → touching_pairs (rows_in t) (rows_in u) ≡ [] → due ≡ [] → StartsWith t u due
    starts-none due none is = subst (StartsWith t u) (sym is) (record {
      each = λ test. sym (ap (count_by test) none);
      nodes = All-nil (IsDue t u);
    })

    pub starts-no_left : IsSettled t → (due : List (Due D)) → cells_at t.nodes t.root ≡ [] → due ≡ [] → StartsWith t u due
    starts-no_left s due none is =
        starts-none due (ap (λ (rows : List (Row D)). touching_pairs rows (rows_in u)) (rows-none t t.level t.root s.whole.linked.root_level none)) is

    pub starts-no_right : IsSettled u → (due : List (Due D)) → cells_at u.nodes u.root ≡ [] → due ≡ [] → StartsWith t u due
    starts-no_right v due none is =
        starts-none due (ap (λ (rows : List (Row D)). touching_pairs (rows_in t) rows) (rows-none u u.level u.root v.whole.linked.root_level none) ∙ right-none (rows_in t)) is

    -- ---- a turn
    module _ (total : (Pair → Bool) → ℕ) (pairs : List Pair) (due rest : List (Due D)) (next : Due D) (so : Joining t u total pairs due) (e : due ≡ rest ++ next ∷ []) where
      nodes-split : All (IsDue t u) (rest ++ next ∷ [])
      nodes-split = subst (All (IsDue t u)) e so.nodes

      pub next-due : IsDue t u next
      next-due = All-head (IsDue t u) next [] (All-right (IsDue t u) rest (next ∷ []) nodes-split)

      module _ (pairs1 : List Pair) (due1 : List (Due D)) (goes : Goes t u next pairs pairs1 rest due1) where
        pub Joining-step : Joining t u total pairs1 due1
        Joining-step = record {
          each = λ test.
              let c = count_due t u test in
              let before = ap (sum_by c) e ∙ sum_by_push c rest next in
              let after = ap (sum_by c) goes.is ∙ sum_by-append c rest goes.more in
              omega (arith, before, after, goes.each test, so.each test);
          nodes = subst (All (IsDue t u)) (sym goes.is) (All-append (IsDue t u) rest goes.more (All-left (IsDue t u) rest (next ∷ []) nodes-split) goes.nodes);
        }

        pub steps-less : sum_by (steps_due t u) due1 < sum_by (steps_due t u) due
        steps-less =
            let c = steps_due t u in
            let before = ap (sum_by c) e ∙ sum_by_push c rest next in
            let after = ap (sum_by c) goes.is ∙ sum_by-append c rest goes.more in
            omega (arith, before, after, goes.fewer)

    pub Joining-end : (total : (Pair → Bool) → ℕ) (pairs : List Pair) (due : List (Due D)) → due ≡ [] → Joining t u total pairs due →
        (test : Pair → Bool) → count_by test pairs ≡ total test
    Joining-end total pairs due none so test =
        let empty : sum_by (count_due t u test) due ≡ 0 = ap (sum_by (count_due t u test)) none in
        omega (arith, so.each test, empty)

    -- the pairs below what was due at first are all
    pub joins-all : IsSettled t → IsSettled u → (due : List (Due D)) (pairs pairs1 : List Pair) → StartsWith t u due → pairs ≡ [] →
        ((test : Pair → Bool) → count_by test pairs1 ≡ count_by test pairs + sum_by (count_due t u test) due) → Joins t u pairs1
    joins-all s v due pairs pairs1 starts none come = record { each = all; once = λ left right. omega (arith, all (has_ids left right), pairs-once left right t u s v) }
      where
        all : (test : Pair → Bool) → count_by test pairs1 ≡ count_by test (touching_pairs (rows_in t) (rows_in u))
        all test = omega (arith, come test, starts.each test, ap (count_by test) none)
