-- Lemmas on tests of each axis.
use Rattle.std.proofs.Common.{◌≡◌, ℕ, suc, zero, ◌<◌, ◌+◌, inl, inr, Bool, true, false, ◌&&◌, ℤ, pos, List, length, set, arith, refl, sym, ap, ◌∙◌}
use Rattle.std.proofs.lemmas.Bool.{cases_eq}
use Rattle.std.proofs.lemmas.List.{get_or-set_same, get_or-set_other}
use Rattle.rt_check.specs.Conditions.{each_axis, coordinate}

-- a test that fails on one axis fails
pub each_axis-fails : (test : ℕ → Bool) (n k : ℕ) → k < n → test k ≡ false → false ≡ each_axis test n
each_axis-fails test zero k within fails = let none : ⊥ = omega arith in absurd none
each_axis-fails test (suc n) k within fails =
    elim (cases_eq k n) [
      | inl e ↦ let last : test n ≡ false = sym (ap test e) ∙ fails in grind (arith, last)
      | inr other ↦
          let inside : k < n = omega (arith, other) in
          let before : false ≡ each_axis test n = each_axis-fails test n k inside fails in
          grind (arith, before)
    ]

pub and-swap : (a b c d : Bool) → ((a && b) && (c && d)) ≡ ((a && c) && (b && d))
and-swap true true c d = refl
and-swap true false true d = refl
and-swap true false false d = refl
and-swap false b c d = refl

-- two tests on each axis are one
pub each_axis-both : (p q : ℕ → Bool) (n : ℕ) → (each_axis p n && each_axis q n) ≡ each_axis (λ k. p k && q k) n
each_axis-both p q zero = refl
each_axis-both p q (suc n) = and-swap (each_axis p n) (p n) (each_axis q n) (q n) ∙ ap (λ t. t && (p n && q n)) (each_axis-both p q n)

-- the coordinates below an axis are as wanted, and then that on the axis too
pub coordinates-more : (xs : List ℤ) (wanted : ℕ → ℤ) (axis : ℕ) (z : ℤ) → axis < length xs → z ≡ wanted axis
    → ((k : ℕ) → k < axis → coordinate xs k ≡ wanted k) → (k : ℕ) → k < axis + 1 → coordinate (set xs axis z) k ≡ wanted k
coordinates-more xs wanted axis z inside e before k within =
    elim (cases_eq k axis) [
      | inl same ↦ ap (coordinate (set xs axis z)) same ∙ get_or-set_same xs axis z (pos 0) inside ∙ e ∙ sym (ap wanted same)
      | inr other ↦
          let differs : k ≡ axis → ⊥ = λ same. omega (arith, same, other) in
          let below : k < axis = omega (arith, within, other) in
          get_or-set_other xs axis k z (pos 0) differs ∙ before k below
    ]
