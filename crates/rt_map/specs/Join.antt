-- Two trees joined, and one tree joined with itself (Brinkhoff, Kriegel, Seeger 1993, section 2).
use Rattle.std.specs.Prelude.{◌≡◌, ℕ, ◌≤◌, Bool, ℤ, List, count_by}
use Rattle.rt_check.specs.Shadow.{ShadowLists}
use Rattle.rt_tree_join.specs.declared.joining.Pair.{Pair}
use Rattle.rt_tree_join.specs.Join.{has_ids, touching_pairs, touching_within}
use Rattle.rt_tree.specs.Lists.{rows_of}

module _ {D : ℕ} where
  -- the pairs of the rows of two trees whose boxes touch: as many pass any test; and no pair of ids comes twice
  pub record JoinsIn (s other : ShadowLists D) (pairs : List Pair) : Type 0 where
    pub each : (test : Pair → Bool) → count_by test pairs ≡ count_by test (touching_pairs (rows_of s) (rows_of other))
    pub once : (left right : ℤ) → count_by (has_ids left right) pairs ≤ 1

  -- the pairs of different rows of one tree whose boxes touch, each with the lower id on the left: as many pass any test; and
  -- no pair of ids comes twice
  pub record JoinsItselfIn (s : ShadowLists D) (pairs : List Pair) : Type 0 where
    pub each : (test : Pair → Bool) → count_by test pairs ≡ count_by test (touching_within (rows_of s))
    pub once : (left right : ℤ) → count_by (has_ids left right) pairs ≤ 1
