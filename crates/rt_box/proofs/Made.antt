-- A box made axis by axis from its ends.
use Rattle.std.proofs.Common.{◌≡◌, ℕ, ◌+◌, ◌<◌, ◌≤◌, ℤ, pos, ◌≤ℤ◌, List, [], ◌∷◌, ◌++◌, length, get_or, set, take, All, ap, ◌∙◌, w32, FitsSigned}
use Rattle.std.specs.List.{AllZip}
use Rattle.std.proofs.lemmas.List.{take_more, take_more_set, take_all, map-append}
use Rattle.std.proofs.lemmas.List.Elements.{All-push, All-head, All-tail}
use Rattle.rt_box.specs.declared.interval.Interval.{Interval}
use Rattle.rt_box.specs.Interval.{FitsEnds, interval}
use Rattle.rt_box.specs.Rect.{los, his}

abbrev pub IsOrdered : Interval → Type 0
IsOrdered i = i.lo ≤ℤ i.hi

-- below the axis i the sides are ordered, and go from lo to hi
pub record IsMadeBelow (lo hi : List ℤ) (sides : List Interval) (i : ℕ) : Type 0 where
  pub ordered : All IsOrdered (take i sides)
  pub fits : All FitsEnds (take i sides)
  pub lo_is : los (take i sides) ≡ take i lo
  pub hi_is : his (take i sides) ≡ take i hi

pub IsMadeBelow-more : (lo hi : List ℤ) (sides : List Interval) (i : ℕ) (l h : ℤ) →
    i < length sides → i < length lo → i < length hi → l ≡ get_or lo i (pos 0) → h ≡ get_or hi i (pos 0) →
    l ≤ℤ h → FitsSigned w32 l → FitsSigned w32 h →
    IsMadeBelow lo hi sides i → IsMadeBelow lo hi (set sides i (interval l h)) (i + 1)
IsMadeBelow-more lo hi sides i l h in_sides in_lo in_hi l_is h_is le l_fits h_fits made = record {
  ordered = rw (take_more_set sides i (interval l h) in_sides)
      (All-push IsOrdered (take i sides) (interval l h) made.ordered le);
  fits = rw (take_more_set sides i (interval l h) in_sides)
      (All-push FitsEnds (take i sides) (interval l h) made.fits (l_fits, h_fits));
  lo_is = rw (take_more_set sides i (interval l h) in_sides, map-append, take_more lo i (pos 0) in_lo)
      (ap (λ xs. xs ++ l ∷ []) made.lo_is ∙ ap (λ x. take i lo ++ x ∷ []) l_is);
  hi_is = rw (take_more_set sides i (interval l h) in_sides, map-append, take_more hi i (pos 0) in_hi)
      (ap (λ xs. xs ++ h ∷ []) made.hi_is ∙ ap (λ x. take i hi ++ x ∷ []) h_is);
}

AllZip-ends : (b : List Interval) → All IsOrdered b → AllZip ◌≤ℤ◌ (los b) (his b)
AllZip-ends [] h = tt
AllZip-ends (x ∷ b) h = (All-head IsOrdered x b h, AllZip-ends b (All-tail IsOrdered x b h))

-- a box whose ends are known
pub box-from_ends : (b : List Interval) (lo hi : List ℤ) → All IsOrdered b → los b ≡ lo → his b ≡ hi → AllZip ◌≤ℤ◌ lo hi
box-from_ends b lo hi ordered lo_is hi_is = rw (← lo_is, ← hi_is) (AllZip-ends b ordered)

pub IsMadeBelow-all : (lo hi : List ℤ) (sides : List Interval) (i : ℕ) → length sides ≤ i → length lo ≤ i → length hi ≤ i →
    IsMadeBelow lo hi sides i → AllZip ◌≤ℤ◌ lo hi
IsMadeBelow-all lo hi sides i s l h made =
    box-from_ends (take i sides) lo hi made.ordered (made.lo_is ∙ take_all i lo l) (made.hi_is ∙ take_all i hi h)
