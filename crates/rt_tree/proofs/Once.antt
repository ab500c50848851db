-- No id stands twice among distinct ones.
use Rattle.std.proofs.Common.{◌≡◌, ℕ, ◌≤◌, false, cond, ℤ, List, [], ◌∷◌, arith, ap, inl, inr}
use Rattle.std.specs.List.{count_by, IsDistinct}
use Rattle.std.specs.Ordering.{int_eq}
use Rattle.std.proofs.lemmas.Bool.{cases_Bool}
use Rattle.std.proofs.lemmas.Bool.Decides.{Decides-int_eq}
use Rattle.std.proofs.lemmas.List.Elements.{All-from_recursion}
use Rattle.rt_tree_node.proofs.Counts.{count-cons, count-zero}

pub distinct-once : (xs : List ℤ) → IsDistinct int_eq xs → (z : ℤ) → count_by (int_eq z) xs ≤ 1
unfolding IsDistinct
distinct-once [] h z = omega arith
distinct-once (x ∷ xs) h z = elim (cases_Bool (int_eq z x)) [
  | inl e ↦
      let same : z ≡ x = (Decides-int_eq z x).0 e in
      let none = count-zero (int_eq x) xs (All-from_recursion (λ y. int_eq x y ≡ false) xs h.0) in
      let here : ◌≡◌ {A = ℕ} (cond (int_eq z x) 1 0) 1 = ap (λ b. cond b 1 0) e in
      omega (arith, count-cons (int_eq z) x xs, here, none, ap (λ w. count_by (int_eq w) xs) same)
  | inr e ↦
      let here : ◌≡◌ {A = ℕ} (cond (int_eq z x) 1 0) 0 = ap (λ b. cond b 1 0) e in
      omega (arith, count-cons (int_eq z) x xs, here, distinct-once xs h.1 z)
]
