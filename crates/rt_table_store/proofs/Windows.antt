-- Windows of which `==` says that they are equal.
use Rattle.std.proofs.Common.{◌≡◌, ℕ, zero, suc, ◌*◌, Bool, true, false, ◌&&◌, List, [], ◌∷◌, length, arith, refl, ap, ◌∙◌}
use Rattle.std.specs.Cmp.Lexicographic.{pointwise}
use Rattle.rt_box.specs.declared.interval.Interval.{Interval}
use Rattle.rt_box.specs.Ends.{paired_up}
use Rattle.rt_box.proofs.Equality.{interval_eq, Decides-box_eq}

and_both : (a b : Bool) → (a && b) ≡ true → (a ≡ true) × (b ≡ true)
and_both true b e = (refl, e)
and_both false b e = cc

same_interval : (i j : Interval) → interval_eq i j ≡ true → i ≡ j
same_interval i j e =
    let alone : i ∷ [] ≡ j ∷ [] = (Decides-box_eq (i ∷ []) (j ∷ []) (pointwise interval_eq (i ∷ []) (j ∷ [])) refl).0 (alone_eq (interval_eq i j) e) in cc
  where
    alone_eq : (b : Bool) → b ≡ true → (b && true) ≡ true
    alone_eq b e = ap (λ a. a && true) e

pub same_windows : (n : ℕ) (v w : List Interval) → length v ≡ 2 * n → length w ≡ 2 * n →
    pointwise (λ a b. interval_eq a.lo b.lo && interval_eq a.hi b.hi) (paired_up v) (paired_up w) ≡ true → v ≡ w
same_windows zero [] [] long_v long_w e = refl
same_windows zero (i ∷ v) w long_v long_w e = absurd (omega arith)
same_windows zero [] (j ∷ w) long_v long_w e = absurd (omega arith)
same_windows (suc n) [] w long_v long_w e = absurd (omega arith)
same_windows (suc n) (i ∷ []) w long_v long_w e = absurd (omega arith)
same_windows (suc n) (i ∷ j ∷ v) [] long_v long_w e = absurd (omega arith)
same_windows (suc n) (i ∷ j ∷ v) (k ∷ []) long_v long_w e = absurd (omega arith)
same_windows (suc n) (i ∷ j ∷ v) (k ∷ l ∷ w) long_v long_w e =
    let parts = and_both (interval_eq i k && interval_eq j l) _ e in
    let ends = and_both (interval_eq i k) (interval_eq j l) parts.0 in
    ap (λ x. x ∷ j ∷ v) (same_interval i k ends.0) ∙ ap (λ x. k ∷ x ∷ v) (same_interval j l ends.1) ∙ ap (λ xs. k ∷ l ∷ xs) (same_windows n v w (omega arith) (omega arith) parts.1)
