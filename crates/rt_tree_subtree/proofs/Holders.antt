-- Cells that hold the new box, and those that don't: where it has an area, the former alone don't grow.
use Rattle.std.proofs.Common.{◌≡◌, ◌⊎◌, inl, inr, ℕ, zero, suc, get_or, ◌+◌, ◌-◌, ◌*◌, ◌<◌, ◌≤◌, ℤ, pos, negsuc, ◌≤ℤ◌, ◌-ℤ◌, false, List, [], ◌∷◌, length, All, arith, ap, ◌∙◌, sym, subst, refl}
use Rattle.std.proofs.Math.Nat.{mul-le-mul, mul-lt-mul_of_pos_left, mul-lt-mul_of_pos_right}
use Rattle.std.proofs.lemmas.Bool.{cases_lt}
use Rattle.std.proofs.lemmas.Int.{ints, clamps}
use Rattle.std.proofs.lemmas.List.{get_or_default, get_or_read}
use Rattle.std.specs.Int.Bits.{bit_and}
use Rattle.std.proofs.lemmas.List.Elements.{All-tail}
use Rattle.rt_box.specs.declared.interval.Interval.{Interval}
use Rattle.rt_box.specs.Interval.{Covers, or_zero, side, cover}
use Rattle.rt_box.specs.Rect.{IsBox, area, union_box, Holds}
use Rattle.rt_box.proofs.Intervals.{side-le}
use Rattle.rt_box.proofs.Holding.{area-le, area-le-union, Holds-union_right}
use Rattle.rt_box.specs.Boxes.{box_at}
use Rattle.rt_tree_subtree.specs.Subtree.{area_enlargement, IsBestChild}
use Rattle.rt_tree_subtree.specs.Costs.{growths, HoldersStay}
use Rattle.rt_box.specs.Keys.{Less, IsLeast}
use Rattle.rt_tree_subtree.proofs.Bits.{TellsFrom, IsNext, none-left}
use Rattle.rt_tree_subtree.proofs.Growth.{union-holder}
use Rattle.rt_box.proofs.Keys.{ranked, IsLeast-takes, IsLeast-keeps}

positive-left : (q s : ℕ) → 0 < q * s → 0 < q
positive-left zero s some = absurd (omega arith)
positive-left (suc q) s some = omega arith

positive-right : (q s : ℕ) → 0 < q * s → 0 < s
positive-right q zero some = absurd (omega arith)
positive-right q (suc s) some = omega arith

-- factors that are no greater, and not 0 at the end, make the same product only if they are the same
same-factors : (p q r s : ℕ) → p ≤ q → r ≤ s → 0 < q * s → p * r ≡ q * s → (p ≡ q) × (r ≡ s)
same-factors p q r s first second some same =
    let rest : p * s ≤ q * s = mul-le-mul first (omega arith) in
    let part : p * r ≤ p * s = mul-le-mul (omega arith) second in
    let swapped : p * r ≤ q * r = mul-le-mul first (omega arith) in
    elim (cases_lt p q) [
      | inl less ↦ absurd (omega (arith, mul-lt-mul_of_pos_right {m = p} {n = q} {k = s} less (positive-right q s some)))
      | inr no_less ↦ elim (cases_lt r s) [
        | inl less ↦ absurd (omega (arith, mul-lt-mul_of_pos_left {m = r} {n = s} {k = q} less (positive-left q s some), swapped))
        | inr same_second ↦ (omega arith, omega arith)
      ]
    ]

or_zero-same : (y z : ℤ) → pos 0 ≤ℤ y → y ≤ℤ z → or_zero y ≡ or_zero z → z ≤ℤ y
or_zero-same (pos m) (pos n) some less same = omega (arith, ints)
or_zero-same (pos m) (negsuc n) some less same = omega (arith, ints)
or_zero-same (negsuc m) z some less same = omega (arith, ints)

-- an interval that doesn't get longer covers the other
covers-unchanged : (x y : Interval) → x.lo ≤ℤ x.hi → side x ≡ side (cover x y) → Covers x y
covers-unchanged x y ordered same =
    let longer : ((cover x y).hi -ℤ (cover x y).lo) ≤ℤ (x.hi -ℤ x.lo) =
    or_zero-same (x.hi -ℤ x.lo) ((cover x y).hi -ℤ (cover x y).lo) (omega (arith, ints)) (omega (arith, ints, clamps)) same in
    (omega (arith, ints, clamps), omega (arith, ints, clamps))

-- a box whose area isn't 0 and doesn't grow holds the other
holds-unchanged : (a b : List Interval) → length a ≡ length b → All (λ i. i.lo ≤ℤ i.hi) a → 0 < area (union_box a b) → area a ≡ area (union_box a b) → Holds a b
holds-unchanged [] [] e ordered some same = tt
holds-unchanged [] (y ∷ b) e ordered some same = absurd (omega arith)
holds-unchanged (x ∷ a) [] e ordered some same = absurd (omega arith)
holds-unchanged (x ∷ a) (y ∷ b) e ordered some same =
    let covers : Covers (cover x y) x = (omega (arith, ints, clamps), omega (arith, ints, clamps)) in
    let each = same-factors (side x) (side (cover x y)) (area a) (area (union_box a b)) (side-le (cover x y) x covers)
    (area-le-union a b (omega arith)) some same in (
      covers-unchanged x y (ordered 0 x (omega arith)) each.0,
      holds-unchanged a b (omega arith) (All-tail (λ i. i.lo ≤ℤ i.hi) x a ordered) (positive-right (side (cover x y)) (area (union_box a b)) some) each.1,
    )

-- the growth of a cell that holds the new box
pub holder-growths : (boxes : List (List Interval)) (new : List Interval) (i a : ℕ) (cell : List Interval) → i < length boxes →
    cell ≡ get_or boxes i cell → Holds cell new → a ≡ area cell → 0 ∷ a ∷ [] ≡ growths boxes new i
holder-growths boxes new i a cell within cell_is holds a_is =
    let here : cell ≡ box_at boxes i = get_or_read boxes i cell within cell_is _ in
    let still : 0 ≡ area_enlargement cell new = omega (arith, ap area (union-holder cell new holds)) in
    ap (λ n. 0 ∷ n ∷ []) a_is ∙ ap (λ n. n ∷ area cell ∷ []) still ∙ ap (λ b. area_enlargement b new ∷ area b ∷ []) here

-- a cell that doesn't hold the new box grows, where either of them has an area
pub other-grows : (axes : ℕ) (boxes : List (List Interval)) (new : List Interval) (i : ℕ) (cell : List Interval) → i < length boxes →
    cell ≡ get_or boxes i cell → IsBox axes cell → IsBox axes new → (0 < area new) ⊎ (0 < area cell) → ¬ Holds cell new →
    0 < area_enlargement (box_at boxes i) new
other-grows axes boxes new i cell within cell_is is_cell is_new some outside =
    let here : cell ≡ box_at boxes i = get_or_read boxes i cell within cell_is _ in
    let same : length cell ≡ length new = omega (arith, is_cell.axes_are, is_new.axes_are) in
    let wide : 0 < area (union_box cell new) = elim some [
      | inl new_some ↦ omega (arith, new_some, area-le (union_box cell new) new (Holds-union_right cell new same))
      | inr cell_some ↦ omega (arith, cell_some, area-le-union cell new same)
    ] in
    let grows : 0 < area_enlargement cell new = elim (cases_lt (area cell) (area (union_box cell new))) [
      | inl less ↦ omega arith
      | inr no_less ↦ absurd (outside (holds-unchanged cell new same is_cell.ordered wide (omega (arith, area-le-union cell new same))))
    ] in
    subst (λ b. 0 < area_enlargement b new) here grows

-- either has one, where the cells that hold the new box are those that don't grow
one-solid : (boxes : List (List Interval)) (new : List Interval) (k : ℕ) (d : List Interval) → HoldersStay boxes new → k < length boxes →
    (0 < area new) ⊎ (0 < area (get_or boxes k d))
one-solid boxes new k d (inl some) within = inl some
one-solid boxes new k d (inr each) within = inr (each k d within)

-- ---- the least of the cells that hold the new box, up to the cell at n
pub record IsLeastHolder (boxes : List (List Interval)) (new : List Interval) (n least best : ℕ) : Type 0 where
  pub growths_are : 0 ∷ least ∷ [] ≡ growths boxes new best
  pub least_so_far : IsLeast (ranked (growths boxes new)) 0 n best

no_less : (least area : ℕ) → least ≤ area → ¬ Less (0 ∷ area ∷ []) (0 ∷ least ∷ [])
no_less least area more (inl l) = omega arith
no_less least area more (inr e) = elim e.1 [ inl l ↦ absurd (omega arith) | inr z ↦ z.1 ]

-- the first one
pub first-holder : (boxes : List (List Interval)) (new : List Interval) (at area : ℕ) → 0 ∷ area ∷ [] ≡ growths boxes new at →
    ((k : ℕ) → k < at → 0 < area_enlargement (box_at boxes k) new) → IsLeastHolder boxes new (at + 1) area at
first-holder boxes new at area growths_are others = record {
  growths_are = growths_are;
  least_so_far = record {
    from_low = omega arith;
    below_high = omega arith;
    least = λ k above below other. inl (omega (arith, ap (λ xs. get_or xs 0 0) growths_are, others k (omega (arith, below, other))));
  };
}

-- cells that don't hold it
pub passes-others : (boxes : List (List Interval)) (new : List Interval) (n m least best : ℕ) → n ≤ m →
    ((k : ℕ) → n ≤ k → k < m → 0 < area_enlargement (box_at boxes k) new) → IsLeastHolder boxes new n least best → IsLeastHolder boxes new m least best
passes-others boxes new n m least best up others h = record {
  growths_are = h.growths_are;
  least_so_far = record {
    from_low = omega arith;
    below_high = omega (arith, up, h.least_so_far.below_high);
    least = λ k above below other. elim (cases_lt k n) [
      | inl before ↦ h.least_so_far.least k above before other
      | inr after ↦ inl (omega (arith, ap (λ xs. get_or xs 0 0) h.growths_are, others k (omega (arith, after)) below))
    ];
  };
}

-- one whose area is less than the least so far
pub takes-holder : (boxes : List (List Interval)) (new : List Interval) (n least area best : ℕ) → 0 ∷ area ∷ [] ≡ growths boxes new n → area < least →
    IsLeastHolder boxes new n least best → IsLeastHolder boxes new (n + 1) area n
takes-holder boxes new n least area best growths_are less h = record {
  growths_are = growths_are;
  least_so_far = IsLeast-takes (growths boxes new) 0 n best h.least_so_far
      (subst (λ x. Less x (growths boxes new best)) growths_are (subst (λ y. Less (0 ∷ area ∷ []) y) h.growths_are (inr (refl, inl less))));
}

-- or isn't
pub keeps-holder : (boxes : List (List Interval)) (new : List Interval) (n least area best : ℕ) → 0 ∷ area ∷ [] ≡ growths boxes new n → least ≤ area →
    IsLeastHolder boxes new n least best → IsLeastHolder boxes new (n + 1) least best
keeps-holder boxes new n least area best growths_are more h = record {
  growths_are = h.growths_are;
  least_so_far = IsLeast-keeps (growths boxes new) 0 n best h.least_so_far refl
      (subst (λ x. ¬ Less x (growths boxes new best)) growths_are (subst (λ y. ¬ Less (0 ∷ area ∷ []) y) h.growths_are (no_less least area more)));
}

-- ---- where bits tell which cells hold it
abbrev pub HoldsNew : List Interval → List Interval → Type 0
HoldsNew new cell = Holds cell new

-- the cells up to the one at n have been looked at, and the bits tell of the others
pub record IsHolderSoFar (boxes : List (List Interval)) (new : List Interval) (rest least best : ℕ) : Type 0 where
  pub n : ℕ
  pub few : n ≤ length boxes
  pub holder : IsLeastHolder boxes new n least best
  pub told : TellsFrom (HoldsNew new) n boxes rest

module _ (axes : ℕ) (boxes : List (List Interval)) (new : List Interval) (are_boxes : All (IsBox axes) boxes) (is_new : IsBox axes new) (stay : HoldersStay boxes new) where
  grows : (k : ℕ) → k < length boxes → ((d : List Interval) → ¬ HoldsNew new (get_or boxes k d)) → 0 < area_enlargement (box_at boxes k) new
  grows k within outside =
      let cell = get_or boxes k new in
      other-grows axes boxes new k cell within (get_or_default boxes k new cell within) (are_boxes k new within) is_new (one-solid boxes new k new stay within) (outside new)

  from_next : (bits at : ℕ) → TellsFrom (HoldsNew new) (suc at) boxes bits → TellsFrom (HoldsNew new) (at + 1) boxes bits
  from_next bits at told = subst (λ (m : ℕ). TellsFrom (HoldsNew new) m boxes bits) {x = suc at} (omega arith) told

  stays : (at least : ℕ) (cell : List Interval) → at < length boxes → cell ≡ get_or boxes at cell → ((d : List Interval) → HoldsNew new (get_or boxes at d)) →
      least ≡ area cell → 0 ∷ least ∷ [] ≡ growths boxes new at
  stays at least cell within cell_is holds is =
      holder-growths boxes new at least cell within cell_is (subst (HoldsNew new) (sym cell_is) (holds cell)) is

  pub begins : (bits at least : ℕ) (cell : List Interval) → IsNext (HoldsNew new) 0 boxes bits at → cell ≡ get_or boxes at cell → least ≡ area cell →
      IsHolderSoFar boxes new (bit_and bits (bits - 1)) least at
  begins bits at least cell next cell_is is = record {
    n = at + 1;
    few = let h = next.within in omega (arith, h);
    holder = first-holder boxes new at least (stays at least cell next.within cell_is next.has is)
        (λ k below. grows k (omega (arith, below, next.within)) (λ d. next.others k d (omega arith) below));
    told = from_next _ at next.rest;
  }

  -- the cells between are passed over
  passed : (rest least best at : ℕ) (h : IsHolderSoFar boxes new rest least best) → IsNext (HoldsNew new) h.n boxes rest at → IsLeastHolder boxes new at least best
  passed rest least best at h next =
      passes-others boxes new h.n at least best next.from
      (λ k above below. grows k (omega (arith, below, next.within)) (λ d. next.others k d above below)) h.holder

  pub takes : (rest least best at area_is : ℕ) (cell : List Interval) (h : IsHolderSoFar boxes new rest least best) → IsNext (HoldsNew new) h.n boxes rest at →
      cell ≡ get_or boxes at cell → area_is ≡ area cell → area_is < least → IsHolderSoFar boxes new (bit_and rest (rest - 1)) area_is at
  takes rest least best at area_is cell h next cell_is is less = record {
    n = at + 1;
    few = let h = next.within in omega (arith, h);
    holder = takes-holder boxes new at least area_is best (stays at area_is cell next.within cell_is next.has is) less (passed rest least best at h next);
    told = from_next _ at next.rest;
  }

  pub keeps : (rest least best at area_is : ℕ) (cell : List Interval) (h : IsHolderSoFar boxes new rest least best) → IsNext (HoldsNew new) h.n boxes rest at →
      cell ≡ get_or boxes at cell → area_is ≡ area cell → least ≤ area_is → IsHolderSoFar boxes new (bit_and rest (rest - 1)) least best
  keeps rest least best at area_is cell h next cell_is is more = record {
    n = at + 1;
    few = let h = next.within in omega (arith, h);
    holder = keeps-holder boxes new at least area_is best (stays at area_is cell next.within cell_is next.has is) more (passed rest least best at h next);
    told = from_next _ at next.rest;
  }

  pub ends : (rest least best : ℕ) → rest ≡ 0 → IsHolderSoFar boxes new rest least best → IsBestChild false boxes new best
  ends rest least best none h =
      (passes-others boxes new h.n (length boxes) least best h.few
      (λ k above below. grows k below (λ d. none-left (HoldsNew new) h.n boxes rest none h.told k d above below)) h.holder).least_so_far
