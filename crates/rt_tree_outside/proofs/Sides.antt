-- The ends of a hull, axis by axis: no cell goes beyond it, and some cell reaches each of its ends.
use Rattle.std.proofs.Common.{◌≡◌, ◌⊎◌, inl, inr, ℕ, zero, suc, ◌<◌, ℤ, ◌<ℤ◌, ◌≤ℤ◌, List, [], ◌∷◌, length, fold, Contains, arith, refl, sym, ◌∙◌}
use Rattle.std.specs.Ordering.{int_cmp, MatchOrdering}
use Rattle.std.specs.Cmp.{int_ranks}
use Rattle.std.specs.declared.cmp.Ordering.{Ordering}
use Rattle.std.specs.declared.cmp.Ordering.TheVariants.{Less, Equal, Greater}
use Rattle.std.specs.List.{All}
use Rattle.std.specs.Int.{int_min, int_max}
use Rattle.std.proofs.lemmas.Int.{ints, clamps}
use Rattle.std.proofs.lemmas.List.Elements.{All-head, All-tail}
use Rattle.rt_box.specs.declared.interval.Interval.{Interval}
use Rattle.rt_box.specs.Rect.{Holds, union_box, los, his}
use Rattle.rt_check.specs.Conditions.{coordinate}
use Rattle.rt_box.specs.Hull.{hull}
use Rattle.rt_tree_walk.proofs.Reaching.{union-long}

pub Holds-lo : (outer inner : List Interval) → Holds outer inner → (axis : ℕ) → coordinate (los outer) axis ≤ℤ coordinate (los inner) axis
Holds-lo [] [] h axis = omega (arith, ints)
Holds-lo [] (y ∷ b) h axis = absurd h
Holds-lo (x ∷ a) [] h axis = absurd h
Holds-lo (x ∷ a) (y ∷ b) h zero = h.0.0
Holds-lo (x ∷ a) (y ∷ b) h (suc axis) = Holds-lo a b h.1 axis

pub Holds-hi : (outer inner : List Interval) → Holds outer inner → (axis : ℕ) → coordinate (his inner) axis ≤ℤ coordinate (his outer) axis
Holds-hi [] [] h axis = omega (arith, ints)
Holds-hi [] (y ∷ b) h axis = absurd h
Holds-hi (x ∷ a) [] h axis = absurd h
Holds-hi (x ∷ a) (y ∷ b) h zero = h.0.1
Holds-hi (x ∷ a) (y ∷ b) h (suc axis) = Holds-hi a b h.1 axis

pub box-ordered : (b : List Interval) → All (λ i. i.lo ≤ℤ i.hi) b → (axis : ℕ) → coordinate (los b) axis ≤ℤ coordinate (his b) axis
box-ordered [] all axis = omega (arith, ints)
box-ordered (x ∷ b) all zero = All-head (λ i. i.lo ≤ℤ i.hi) x b all
box-ordered (x ∷ b) all (suc axis) = box-ordered b (All-tail (λ i. i.lo ≤ℤ i.hi) x b all) axis

-- ---- each end of a union is an end of one of the two
either-min_at : (x y : ℤ) (r : Ordering) → MatchOrdering r (x <ℤ y) (x ≡ y) (y <ℤ x) → (int_min x y ≡ x) ⊎ (int_min x y ≡ y)
either-min_at x y Less h = inl (omega (arith, ints, clamps))
either-min_at x y Equal h = inl (omega (arith, ints, clamps))
either-min_at x y Greater h = inr (omega (arith, ints, clamps))

either-min : (x y : ℤ) → (int_min x y ≡ x) ⊎ (int_min x y ≡ y)
either-min x y = either-min_at x y (int_cmp x y) (int_ranks x y)

either-max_at : (x y : ℤ) (r : Ordering) → MatchOrdering r (x <ℤ y) (x ≡ y) (y <ℤ x) → (int_max x y ≡ x) ⊎ (int_max x y ≡ y)
either-max_at x y Less h = inr (omega (arith, ints, clamps))
either-max_at x y Equal h = inl (omega (arith, ints, clamps))
either-max_at x y Greater h = inl (omega (arith, ints, clamps))

either-max : (x y : ℤ) → (int_max x y ≡ x) ⊎ (int_max x y ≡ y)
either-max x y = either-max_at x y (int_cmp x y) (int_ranks x y)

union-lo : (a b : List Interval) → length a ≡ length b → (axis : ℕ) →
    (coordinate (los (union_box a b)) axis ≡ coordinate (los a) axis) ⊎ (coordinate (los (union_box a b)) axis ≡ coordinate (los b) axis)
union-lo [] b e axis = inl refl
union-lo (x ∷ a) [] e axis = absurd (omega arith)
union-lo (x ∷ a) (y ∷ b) e zero = either-min x.lo y.lo
union-lo (x ∷ a) (y ∷ b) e (suc axis) = union-lo a b (omega arith) axis

union-hi : (a b : List Interval) → length a ≡ length b → (axis : ℕ) →
    (coordinate (his (union_box a b)) axis ≡ coordinate (his a) axis) ⊎ (coordinate (his (union_box a b)) axis ≡ coordinate (his b) axis)
union-hi [] b e axis = inl refl
union-hi (x ∷ a) [] e axis = absurd (omega arith)
union-hi (x ∷ a) (y ∷ b) e zero = either-max x.hi y.hi
union-hi (x ∷ a) (y ∷ b) e (suc axis) = union-hi a b (omega arith) axis

-- ---- each end of a hull is an end of one of its boxes
-- which end is looked at
module _ (n axis : ℕ) (end : List Interval → List ℤ)
    (either : (a b : List Interval) → length a ≡ length b →
    (coordinate (end (union_box a b)) axis ≡ coordinate (end a) axis) ⊎ (coordinate (end (union_box a b)) axis ≡ coordinate (end b) axis)) where
  abbrev Reaches : List (List Interval) → ℤ → Type 0
  Reaches bs z = (b : List Interval) × Contains bs b × (coordinate (end b) axis ≡ z)

  folded-end : (acc : List Interval) (bs : List (List Interval)) → length acc ≡ n → All (λ b. length b ≡ n) bs →
      (coordinate (end (fold union_box acc bs)) axis ≡ coordinate (end acc) axis) ⊎ Reaches bs (coordinate (end (fold union_box acc bs)) axis)
  folded-end acc [] e all = inl refl
  folded-end acc (b ∷ bs) e all =
      let f = All-head (λ x. length x ≡ n) b bs all in
      elim (folded-end (union_box acc b) bs (union-long n acc b e f) (All-tail (λ x. length x ≡ n) b bs all)) [
        | inl same ↦ elim (either acc b (e ∙ sym f)) [
          | inl first ↦ inl (same ∙ first)
          | inr second ↦ inr (b, (0, omega arith, refl), sym (same ∙ second))
        ]
        | inr later ↦ inr (later.0, (suc later.1.0, (let h = later.1.1 in omega arith), later.1.2), later.2)
      ]

  pub hull-end : (bs : List (List Interval)) → 0 < length bs → All (λ b. length b ≡ n) bs → (b : List Interval) × Contains bs b × (coordinate (end b) axis ≡ coordinate (end (hull bs)) axis)
  hull-end [] h all = absurd (omega arith)
  hull-end (b ∷ bs) h all = elim (folded-end b bs (All-head (λ x. length x ≡ n) b bs all) (All-tail (λ x. length x ≡ n) b bs all)) [
    | inl same ↦ (b, (0, omega arith, refl), sym same)
    | inr later ↦ (later.0, (suc later.1.0, (let q = later.1.1 in omega arith), later.1.2), later.2)
  ]

pub hull-lo : (n axis : ℕ) (bs : List (List Interval)) → 0 < length bs → All (λ b. length b ≡ n) bs → (b : List Interval) × Contains bs b × (coordinate (los b) axis ≡ coordinate (los (hull bs)) axis)
hull-lo n axis bs some all = hull-end n axis los (λ a b e. union-lo a b e axis) bs some all

pub hull-hi : (n axis : ℕ) (bs : List (List Interval)) → 0 < length bs → All (λ b. length b ≡ n) bs → (b : List Interval) × Contains bs b × (coordinate (his b) axis ≡ coordinate (his (hull bs)) axis)
hull-hi n axis bs some all = hull-end n axis his (λ a b e. union-hi a b e axis) bs some all
