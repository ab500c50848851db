-- Keys: lists of numbers, of which the first that differ decide.
use Rattle.std.specs.Prelude.{◌≡◌, ◌≢◌, ◌⊎◌, ℕ, ◌<◌, ◌≤◌, List, [], ◌∷◌}

-- the first key is less than the second, which is as long
abbrev pub Less : List ℕ → List ℕ → Type 0
Less [] ys = ⊥
Less (x ∷ xs) [] = ⊥
Less (x ∷ xs) (y ∷ ys) = (x < y) ⊎ ((x ≡ y) × Less xs ys)

-- best is the one number from low up to high, without high, whose key is less than the key of each other
pub record IsLeast (key : ℕ → List ℕ) (low high best : ℕ) : Type 0 where
  pub from_low : low ≤ best
  pub below_high : best < high
  pub least : (k : ℕ) → low ≤ k → k < high → k ≢ best → Less (key best) (key k)
