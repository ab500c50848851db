-- No pair comes twice, since no id does.
use Rattle.std.proofs.Common.{◌≡◌, ℕ, ◌≤◌, Bool, true, false, cond, ℤ, List, [], ◌∷◌, map, get_or, arith, ap, inl, inr}
use Rattle.std.specs.Prelude.{◌&&◌}
use Rattle.std.specs.List.{count_by, filter}
use Rattle.std.specs.Ordering.{int_eq}
use Rattle.std.proofs.lemmas.Bool.{cases_Bool}
use Rattle.std.proofs.lemmas.List.Sums.{sum_by-le-sum_by}
use Rattle.rt_tree_node.specs.declared.arena.Arena.{Arena}
use Rattle.rt_tree_walk.specs.declared.searching.Row.{Row}
use Rattle.rt_tree_walk.proofs.Judging.{All-mapped}
use Rattle.rt_tree_walk.proofs.Progress.{IsSettled}
use Rattle.rt_tree_walk.specs.Rows.{rows_in}
use Rattle.rt_tree_walk.proofs.Below.{ids-apart}
use Rattle.rt_tree_node.proofs.Counts.{count-cons, count-zero}
use Rattle.rt_tree_walk.proofs.Judging.{count-joined}
use Rattle.rt_tree_join.specs.Join.{touch, pair_of, pairs_with, touching_pairs, has_ids}

both-le : (a b : Bool) → ◌≤◌ (cond (a && b) 1 0) (cond b 1 0)
both-le true true = omega arith
both-le true false = omega arith
both-le false true = omega arith
both-le false false = omega arith

module _ {D : ℕ} (left right : ℤ) where
  with-le : (others : List (Row D)) (r : Row D) → count_by (has_ids left right) (pairs_with others r) ≤ count_by (λ (s : Row D). int_eq right s.id) others
  with-le [] r = omega arith
  with-le (s ∷ ss) r = by (touch r.rect s.rect) (with-le ss r)
    where
      by : (b : Bool) → count_by (has_ids left right) (pairs_with ss r) ≤ count_by (λ (x : Row D). int_eq right x.id) ss →
          count_by (has_ids left right) (map (pair_of r) (cond b (s ∷ filter (λ x. touch r.rect x.rect) ss) (filter (λ x. touch r.rect x.rect) ss)))
          ≤ count_by (λ (x : Row D). int_eq right x.id) (s ∷ ss)
      by true rest =
          omega (
            arith,
            count-cons (has_ids left right) (pair_of r s) (pairs_with ss r),
            count-cons (λ (x : Row D). int_eq right x.id) s ss,
            both-le (int_eq left r.id) (int_eq right s.id),
            rest,
          )
      by false rest = omega (arith, count-cons (λ (x : Row D). int_eq right x.id) s ss, rest)

  with-none : (others : List (Row D)) (r : Row D) → int_eq left r.id ≡ false → count_by (has_ids left right) (pairs_with others r) ≡ 0
  with-none others r e =
      let near = filter (λ s. touch r.rect s.rect) others in
      count-zero (has_ids left right) (map (pair_of r) near)
      (All-mapped (λ p. has_ids left right p ≡ false) (pair_of r) near (λ i d h. ap (λ b. b && int_eq right (get_or near i d).id) e))

  one-row : (others : List (Row D)) → count_by (λ (s : Row D). int_eq right s.id) others ≤ 1 → (r : Row D) →
      count_by (has_ids left right) (pairs_with others r) ≤ cond (int_eq left r.id) 1 0
  one-row others few r = elim (cases_Bool (int_eq left r.id)) [
    | inl e ↦
        let one : ◌≡◌ {A = ℕ} (cond (int_eq left r.id) 1 0) 1 = ap (λ b. cond b 1 0) e in
        omega (arith, with-le others r, few, one)
    | inr e ↦ omega (arith, with-none others r e)
  ]

  pub pairs-once : (t u : Arena D) → IsSettled t → IsSettled u → count_by (has_ids left right) (touching_pairs (rows_in t) (rows_in u)) ≤ 1
  pairs-once t u s v =
      let others = rows_in u in
      let all = count-joined (has_ids left right) (pairs_with others) (rows_in t) in
      let few = sum_by-le-sum_by (λ (r : Row D). count_by (has_ids left right) (pairs_with others r)) (λ (r : Row D). cond (int_eq left r.id) 1 0) (rows_in t)
      (one-row others (ids-apart u v right)) in
      omega (arith, all, few, ids-apart t s left)
