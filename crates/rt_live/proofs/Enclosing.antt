-- The box around two boxes: what touches one of them touches it.
use Rattle.std.proofs.Common.{◌≡◌, ◌⊎◌, Bool, true, false, ◌||◌, List, [], ◌∷◌, length, Some, None, inl, inr, arith, refl, sym}
use Rattle.std.specs.Prelude.{int_le}
use Rattle.std.specs.Int.{int_min, int_max}
use Rattle.std.proofs.lemmas.Bool.{and_from, and_parts, true≢false}
use Rattle.std.proofs.lemmas.Int.{ints, clamps}
use Rattle.rt_box.specs.declared.interval.Interval.{Interval}
use Rattle.rt_box.specs.Interval.{cover, Covers}
use Rattle.rt_box.specs.Rect.{union_box, Holds}
use Rattle.rt_tree_walk.proofs.Ints.{int_le-true, int_le-from}
use Rattle.rt_tree_join.specs.Join.{meet, touch}
use Rattle.rt_live.specs.Finding.{Encloses}

first-meets : (i j k : Interval) → meet i k ≡ true → meet (cover i j) k ≡ true
first-meets i j k e =
    let parts = and_parts (int_le i.lo k.hi) (int_le k.lo i.hi) e in
    let lo = int_le-true i.lo k.hi parts.0 in
    let hi = int_le-true k.lo i.hi parts.1 in
    and_from (int_le (int_min i.lo j.lo) k.hi) (int_le k.lo (int_max i.hi j.hi))
    (int_le-from (int_min i.lo j.lo) k.hi (omega (arith, ints, clamps, lo)))
    (int_le-from k.lo (int_max i.hi j.hi) (omega (arith, ints, clamps, hi)))

second-meets : (i j k : Interval) → meet j k ≡ true → meet (cover i j) k ≡ true
second-meets i j k e =
    let parts = and_parts (int_le j.lo k.hi) (int_le k.lo j.hi) e in
    let lo = int_le-true j.lo k.hi parts.0 in
    let hi = int_le-true k.lo j.hi parts.1 in
    and_from (int_le (int_min i.lo j.lo) k.hi) (int_le k.lo (int_max i.hi j.hi))
    (int_le-from (int_min i.lo j.lo) k.hi (omega (arith, ints, clamps, lo)))
    (int_le-from k.lo (int_max i.hi j.hi) (omega (arith, ints, clamps, hi)))

first-touches : (a b other : List Interval) → length a ≡ length b → touch a other ≡ true → touch (union_box a b) other ≡ true
first-touches [] [] other long e = e
first-touches [] (j ∷ b) other long e = absurd (omega (arith, long))
first-touches (i ∷ a) [] other long e = absurd (omega (arith, long))
first-touches (i ∷ a) (j ∷ b) [] long e = absurd (true≢false (sym e))
first-touches (i ∷ a) (j ∷ b) (k ∷ other) long e =
    let parts = and_parts (meet i k) (touch a other) e in
    and_from (meet (cover i j) k) (touch (union_box a b) other) (first-meets i j k parts.0) (first-touches a b other (omega (arith, long)) parts.1)

second-touches : (a b other : List Interval) → length a ≡ length b → touch b other ≡ true → touch (union_box a b) other ≡ true
second-touches [] [] other long e = e
second-touches [] (j ∷ b) other long e = absurd (omega (arith, long))
second-touches (i ∷ a) [] other long e = absurd (omega (arith, long))
second-touches (i ∷ a) (j ∷ b) [] long e = absurd (true≢false (sym e))
second-touches (i ∷ a) (j ∷ b) (k ∷ other) long e =
    let parts = and_parts (meet j k) (touch b other) e in
    and_from (meet (cover i j) k) (touch (union_box a b) other) (second-meets i j k parts.0) (second-touches a b other (omega (arith, long)) parts.1)

held-meets : (i j k : Interval) → Covers i j → meet j k ≡ true → meet i k ≡ true
held-meets i j k covers e =
    let parts = and_parts (int_le j.lo k.hi) (int_le k.lo j.hi) e in
    let lo = int_le-true j.lo k.hi parts.0 in
    let hi = int_le-true k.lo j.hi parts.1 in
    and_from (int_le i.lo k.hi) (int_le k.lo i.hi)
    (int_le-from i.lo k.hi (omega (arith, ints, covers, lo)))
    (int_le-from k.lo i.hi (omega (arith, ints, covers, hi)))

-- what touches a box touches each box that holds it
pub held-touches : (a b other : List Interval) → Holds a b → touch b other ≡ true → touch a other ≡ true
held-touches [] [] other holds e = e
held-touches [] (j ∷ b) other holds e = absurd holds
held-touches (i ∷ a) [] other holds e = absurd holds
held-touches (i ∷ a) (j ∷ b) [] holds e = absurd (true≢false (sym e))
held-touches (i ∷ a) (j ∷ b) (k ∷ other) holds e =
    let parts = and_parts (meet j k) (touch b other) e in
    and_from (meet i k) (touch a other) (held-meets i j k holds.0 parts.0) (held-touches a b other holds.1 parts.1)

one-is : (x y : Bool) → (x || y) ≡ true → (x ≡ true) ⊎ (y ≡ true)
one-is true y e = inl refl
one-is false y e = inr e

pub encloses-both : (a b : List Interval) → length a ≡ length b → Encloses (Some a) (Some b) (union_box a b)
encloses-both a b long = λ other e. elim (one-is (touch a other) (touch b other) e) [
  | inl h ↦ first-touches a b other long h
  | inr h ↦ second-touches a b other long h
]

pub encloses-first : (a : List Interval) → Encloses (Some a) None a
encloses-first a = λ other e. elim (one-is (touch a other) false e) [
  | inl h ↦ h
  | inr h ↦ absurd (true≢false (sym h))
]

pub encloses-second : (a : List Interval) → Encloses None (Some a) a
encloses-second a = λ other e. e
