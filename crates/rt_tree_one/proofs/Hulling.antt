-- A cell that the checker takes for the hull of others has the box of their hull.
use Rattle.std.proofs.Common.{◌≡◌, ℕ, zero, suc, ◌<◌, Bool, true, ◌&&◌, ℤ, pos, List, [], ◌∷◌, map, length, fold, refl, sym, ap, ◌∙◌, arith, inl, inr, ext_get_or}
use Rattle.std.specs.Prelude.{int_le}
use Rattle.std.specs.Int.{int_min, int_max}
use Rattle.std.proofs.lemmas.Int.{ints}
use Rattle.std.proofs.lemmas.Bool.{cases_eq, and_parts}
use Rattle.std.proofs.lemmas.List.{length-map}
use Rattle.rt_box.specs.declared.interval.Interval.{Interval}
use Rattle.rt_box.specs.Rect.{union_box, los, his}
use Rattle.rt_box.specs.Hull.{hull}
use Rattle.rt_check.specs.declared.node.RawCell.{RawCell}
use Rattle.rt_check.specs.Conditions.{each_axis, coordinate, lies_in, is_hull}
use Rattle.rt_check.specs.Fits.{least_lo, greatest_hi}
use Rattle.rt_check.proofs.Hulls.{hull-both}
use Rattle.rt_tree.specs.Lists.{intervals, box_in}
use Rattle.rt_tree_one.proofs.Entries.{Each}

-- ---- boxes and their ends
pub los-intervals : (low high : List ℤ) → length low ≡ length high → los (intervals low high) ≡ low
los-intervals [] high e = refl
los-intervals (x ∷ low) [] e = absurd (omega (arith, e))
los-intervals (x ∷ low) (y ∷ high) e = ap (λ (zs : List ℤ). x ∷ zs) (los-intervals low high (omega (arith, e)))

pub his-intervals : (low high : List ℤ) → length low ≡ length high → his (intervals low high) ≡ high
his-intervals [] [] e = refl
his-intervals [] (y ∷ high) e = absurd (omega (arith, e))
his-intervals (x ∷ low) [] e = absurd (omega (arith, e))
his-intervals (x ∷ low) (y ∷ high) e = ap (λ (zs : List ℤ). y ∷ zs) (his-intervals low high (omega (arith, e)))

intervals-ends : (b : List Interval) → intervals (los b) (his b) ≡ b
intervals-ends [] = refl
intervals-ends (i ∷ b) = ap (λ (is : List Interval). i ∷ is) (intervals-ends b)

length-intervals : (low high : List ℤ) → length low ≡ length high → length (intervals low high) ≡ length low
length-intervals [] high e = refl
length-intervals (x ∷ low) [] e = absurd (omega (arith, e))
length-intervals (x ∷ low) (y ∷ high) e = let r = length-intervals low high (omega (arith, e)) in omega (arith, r)

-- ---- unions and hulls on an axis
union_long : (n : ℕ) (a b : List Interval) → length a ≡ n → length b ≡ n → length (union_box a b) ≡ n
union_long n [] b e f = e
union_long n (x ∷ a) [] e f = absurd (omega (arith, e, f))
union_long zero (x ∷ a) (y ∷ b) e f = absurd (omega (arith, e))
union_long (suc n) (x ∷ a) (y ∷ b) e f = let r = union_long n a b (omega (arith, e)) (omega (arith, f)) in omega (arith, r)

union_lo : (a b : List Interval) (axis : ℕ) → length a ≡ length b → axis < length a →
    coordinate (los (union_box a b)) axis ≡ int_min (coordinate (los a) axis) (coordinate (los b) axis)
union_lo [] b axis e within = absurd (omega (arith, within))
union_lo (x ∷ a) [] axis e within = absurd (omega (arith, e))
union_lo (x ∷ a) (y ∷ b) zero e within = refl
union_lo (x ∷ a) (y ∷ b) (suc axis) e within = union_lo a b axis (omega (arith, e)) (omega (arith, within))

union_hi : (a b : List Interval) (axis : ℕ) → length a ≡ length b → axis < length a →
    coordinate (his (union_box a b)) axis ≡ int_max (coordinate (his a) axis) (coordinate (his b) axis)
union_hi [] b axis e within = absurd (omega (arith, within))
union_hi (x ∷ a) [] axis e within = absurd (omega (arith, e))
union_hi (x ∷ a) (y ∷ b) zero e within = refl
union_hi (x ∷ a) (y ∷ b) (suc axis) e within = union_hi a b axis (omega (arith, e)) (omega (arith, within))

each_axis_at : (test : ℕ → Bool) (n k : ℕ) → k < n → each_axis test n ≡ true → test k ≡ true
each_axis_at test zero k within e = absurd (omega (arith, within))
each_axis_at test (suc n) k within e = elim (cases_eq k n) [
  | inl same ↦ ap test same ∙ (and_parts (each_axis test n) (test n) e).1
  | inr other ↦ each_axis_at test n k (omega (arith, within, other)) (and_parts (each_axis test n) (test n) e).0
]

le_both : (x y : ℤ) → int_le x y ≡ true → int_le y x ≡ true → x ≡ y
le_both x y p q = grind (arith, ints)

module _ {D : ℕ} where
  -- the cell has a lo and a hi on each axis
  abbrev pub IsLong : RawCell D → Type 0
  IsLong c = (length c.lo ≡ D) × (length c.hi ≡ D)

  box_long : (c : RawCell D) → IsLong c → length (box_in c) ≡ D
  box_long c long = length-intervals c.lo c.hi (long.0 ∙ sym long.1) ∙ long.0

  pub los-box : (c : RawCell D) → IsLong c → los (box_in c) ≡ c.lo
  los-box c long = los-intervals c.lo c.hi (long.0 ∙ sym long.1)

  pub his-box : (c : RawCell D) → IsLong c → his (box_in c) ≡ c.hi
  his-box c long = his-intervals c.lo c.hi (long.0 ∙ sym long.1)

  folded_long : (acc : List Interval) (cells : List (RawCell D)) → length acc ≡ D → Each IsLong cells → length (fold union_box acc (map box_in cells)) ≡ D
  folded_long acc [] e long = e
  folded_long acc (c ∷ cs) e long = folded_long (union_box acc (box_in c)) cs (union_long D acc (box_in c) e (box_long c long.0)) long.1

  folded_lo : (acc : List Interval) (cells : List (RawCell D)) (axis : ℕ) → axis < D → length acc ≡ D → Each IsLong cells →
      coordinate (los (fold union_box acc (map box_in cells))) axis
      ≡ fold (λ least x. int_min least (coordinate x.lo axis)) (coordinate (los acc) axis) cells
  folded_lo acc [] axis within e long = refl
  folded_lo acc (c ∷ cs) axis within e long =
      let own : coordinate (los (box_in c)) axis ≡ coordinate c.lo axis = ap (λ (zs : List ℤ). coordinate zs axis) (los-box c long.0) in
      let here = union_lo acc (box_in c) axis (e ∙ sym (box_long c long.0)) (omega (arith, e, within)) in
      folded_lo (union_box acc (box_in c)) cs axis within (union_long D acc (box_in c) e (box_long c long.0)) long.1
      ∙ ap (λ (z : ℤ). fold (λ least (x : RawCell D). int_min least (coordinate x.lo axis)) z cs) (here ∙ ap (int_min (coordinate (los acc) axis)) own)

  folded_hi : (acc : List Interval) (cells : List (RawCell D)) (axis : ℕ) → axis < D → length acc ≡ D → Each IsLong cells →
      coordinate (his (fold union_box acc (map box_in cells))) axis
      ≡ fold (λ greatest x. int_max greatest (coordinate x.hi axis)) (coordinate (his acc) axis) cells
  folded_hi acc [] axis within e long = refl
  folded_hi acc (c ∷ cs) axis within e long =
      let own : coordinate (his (box_in c)) axis ≡ coordinate c.hi axis = ap (λ (zs : List ℤ). coordinate zs axis) (his-box c long.0) in
      let here = union_hi acc (box_in c) axis (e ∙ sym (box_long c long.0)) (omega (arith, e, within)) in
      folded_hi (union_box acc (box_in c)) cs axis within (union_long D acc (box_in c) e (box_long c long.0)) long.1
      ∙ ap (λ (z : ℤ). fold (λ greatest (x : RawCell D). int_max greatest (coordinate x.hi axis)) z cs) (here ∙ ap (int_max (coordinate (his acc) axis)) own)

  -- the cell lies in the other and holds it, so their boxes are equal
  module _ (c fit : RawCell D) (long : IsLong c) (long_too : IsLong fit) (held : lies_in fit c ≡ true) (holds : lies_in c fit ≡ true) where
    ends : (k : ℕ) → k < D → (coordinate c.lo k ≡ coordinate fit.lo k) × (coordinate c.hi k ≡ coordinate fit.hi k)
    ends k within =
        let p = each_axis_at (λ axis. int_le (coordinate c.lo axis) (coordinate fit.lo axis) && int_le (coordinate fit.hi axis) (coordinate c.hi axis)) D k within held in
        let q = each_axis_at (λ axis. int_le (coordinate fit.lo axis) (coordinate c.lo axis) && int_le (coordinate c.hi axis) (coordinate fit.hi axis)) D k within holds in
        let first = and_parts (int_le (coordinate c.lo k) (coordinate fit.lo k)) (int_le (coordinate fit.hi k) (coordinate c.hi k)) p in
        let second = and_parts (int_le (coordinate fit.lo k) (coordinate c.lo k)) (int_le (coordinate c.hi k) (coordinate fit.hi k)) q in
        (le_both (coordinate c.lo k) (coordinate fit.lo k) first.0 second.0, le_both (coordinate c.hi k) (coordinate fit.hi k) second.1 first.1)

    same_lo : c.lo ≡ fit.lo
    same_lo = ext_get_or (pos 0) c.lo fit.lo (long.0 ∙ sym long_too.0) (λ k within. (ends k (let e = long.0 in omega (arith, e, within))).0)

    same_hi : c.hi ≡ fit.hi
    same_hi = ext_get_or (pos 0) c.hi fit.hi (long.1 ∙ sym long_too.1) (λ k within. (ends k (let e = long.1 in omega (arith, e, within))).1)

  pub hull-box : (c : RawCell D) (cells : List (RawCell D)) → 0 < length cells → IsLong c → Each IsLong cells → is_hull c cells ≡ true →
      hull (map box_in cells) ≡ box_in c
  hull-box c [] some long all is = absurd (omega (arith, some))
  hull-box c (first ∷ others) some long all is =
      let whole : List Interval = fold union_box (box_in first) (map box_in others) in
      let fit : RawCell D = record { number = pos 0; lo = los whole; hi = his whole } in
      let size = folded_long (box_in first) others (box_long first all.0) all.1 in
      let fits : (axis : ℕ) → axis < D → (coordinate (los whole) axis ≡ least_lo first others axis) × (coordinate (his whole) axis ≡ greatest_hi first others axis)
      = λ axis within. (
        folded_lo (box_in first) others axis within (box_long first all.0) all.1
            ∙ ap (λ (zs : List ℤ). fold (λ least (x : RawCell D). int_min least (coordinate x.lo axis)) (coordinate zs axis) others) (los-box first all.0),
        folded_hi (box_in first) others axis within (box_long first all.0) all.1
            ∙ ap (λ (zs : List ℤ). fold (λ greatest (x : RawCell D). int_max greatest (coordinate x.hi axis)) (coordinate zs axis) others) (his-box first all.0),
      ) in
      let both = and_parts (lies_in fit c) (lies_in c fit) (sym (hull-both c fit first others fits) ∙ is) in
      let long_too : IsLong fit = (length-map whole (λ (i : Interval). i.lo) ∙ size, length-map whole (λ (i : Interval). i.hi) ∙ size) in
      let low : c.lo ≡ los whole = same_lo c fit long long_too both.0 both.1 in
      let high : c.hi ≡ his whole = same_hi c fit long long_too both.0 both.1 in
      sym (intervals-ends whole) ∙ ap (λ (zs : List ℤ). intervals zs (his whole)) (sym low) ∙ ap (intervals c.lo) (sym high)
