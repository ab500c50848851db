-- The order of ids, and the tests that ask for it.
use Rattle.std.proofs.Common.{◌≡◌, ℤ, true, false, ◌⊎◌, inl, inr, arith, refl}
use Rattle.std.specs.Prelude.{◌<ℤ◌, int_lt}
use Rattle.std.specs.Ordering.{int_eq, int_cmp}
use Rattle.std.proofs.lemmas.Bool.Decides.{Decides-int_eq}
use Rattle.std.proofs.lemmas.Cmp.{int_ranked, by_ranked}
use Rattle.std.proofs.lemmas.Int.{ints}

pub lt_true : (a b : ℤ) → a <ℤ b → int_lt a b ≡ true
lt_true a b h = grind (arith, ints)

pub lt_above : (a b : ℤ) → b <ℤ a → int_lt a b ≡ false
lt_above a b h = grind (arith, ints)

pub lt_same : (a : ℤ) → int_lt a a ≡ false
lt_same a = grind (arith, ints)

pub lt_from : (a b : ℤ) → int_lt a b ≡ true → a <ℤ b
lt_from a b e = grind (arith, ints)

pub three_ways : (a b : ℤ) → (a <ℤ b) ⊎ ((a ≡ b) ⊎ (b <ℤ a))
three_ways a b = by_ranked _ _ _ (int_cmp a b) (int_ranked a b (int_cmp a b) refl) (λ e h. inl h) (λ e h. inr (inl h)) (λ e h. inr (inr h))

pub eq_same : (a : ℤ) → int_eq a a ≡ true
eq_same a = (Decides-int_eq a a).1 refl

pub eq_below : (a b : ℤ) → a <ℤ b → int_eq a b ≡ false
eq_below a b h = rw (lt_true a b h)

pub eq_above : (a b : ℤ) → b <ℤ a → int_eq a b ≡ false
eq_above a b h = rw (lt_above a b h, lt_true b a h)

pub eq_from : (a b : ℤ) → int_eq a b ≡ true → a ≡ b
eq_from a b e = (Decides-int_eq a b).0 e

pub lt_trans : (a b c : ℤ) → a <ℤ b → b <ℤ c → a <ℤ c
lt_trans a b c h k = omega (arith, ints, h, k)
