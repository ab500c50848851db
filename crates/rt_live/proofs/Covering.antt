-- Two strips: what a window that moves along one axis is told of touches one of them.
use Rattle.std.proofs.Common.{◌≡◌, ℕ, zero, suc, ◌<◌, Bool, true, false, ◌&&◌, ◌||◌, ℤ, ◌≤ℤ◌, List, [], ◌∷◌, ◌++◌, Contains, Option, Some, None, IfSome, length, set, get_or, is_some, cond, w32, FitsSigned, to_z, of_z, inl, inr, arith, refl, ap, sym, ◌∙◌, subst}
use Rattle.std.specs.Prelude.{filter, count_by, int_le}
use Rattle.std.specs.List.{AllByRecursion, flat_map}
use Rattle.std.proofs.lemmas.Bool.{cases_Bool, and_from, and_parts, true≢false}
use Rattle.std.proofs.lemmas.Int.{ints, clamps, to_z-of_z}
use Rattle.std.proofs.lemmas.List.{map-set}
use Rattle.std.proofs.lemmas.List.Elements.{recursion_from_All}
use Rattle.rt_box.specs.declared.interval.Interval.{Interval}
use Rattle.rt_box.specs.Rect.{IsBox, los, his}
use Rattle.rt_check.specs.Shadow.{ShadowLists}
use Rattle.rt_tree_node.proofs.Counts.{count-some}
use Rattle.rt_tree_walk.specs.declared.searching.Row.{Row}
use Rattle.rt_tree_walk.proofs.Reaching.{counted-contained}
use Rattle.rt_tree_walk.proofs.Ints.{int_le-true, int_le-from, int_le-false}
use Rattle.rt_tree_join.specs.Join.{meet, touch}
use Rattle.rt_tree.specs.Lists.{IsInShape, rows_of}
use Rattle.rt_tree.specs.Boxes.{HasBoxes}
use Rattle.rt_tree.proofs.Members.{contains-here, contains-later}
use Rattle.rt_live.specs.Rows.{by_id}
use Rattle.rt_live.specs.Changes.{touches, told_of_window, listed, window_changes}
use Rattle.rt_live.specs.Finding.{between, is_told_of, touches_either, CoversTold}
use Rattle.rt_live.proofs.Found.{same_row, row-itself, row-same, row_is_box}
use Rattle.rt_live.proofs.Once.{by_id-counts}
use Rattle.rt_live.proofs.Telling.{silent_untold}

-- ---- a box is known by its ends
pub same_ends : (a b : List Interval) → los a ≡ los b → his a ≡ his b → a ≡ b
same_ends [] [] lo hi = refl
same_ends [] (j ∷ b) lo hi = let none : ⊥ = cc in absurd none
same_ends (i ∷ a) [] lo hi = let none : ⊥ = cc in absurd none
same_ends (i ∷ a) (j ∷ b) lo hi =
    let first_lo : i.lo ≡ j.lo = cc in
    let first_hi : i.hi ≡ j.hi = cc in
    let rest_lo : los a ≡ los b = cc in
    let rest_hi : his a ≡ his b = cc in
    let with_lo : ℤ → Interval = λ z. record { lo = z; hi = i.hi } in
    let with_hi : ℤ → Interval = λ z. record { lo = j.lo; hi = z } in
    ap (λ k. k ∷ a) (ap with_lo first_lo ∙ ap with_hi first_hi) ∙ ap (λ c. j ∷ c) (same_ends a b rest_lo rest_hi)

-- a box whose ends on one axis are others
pub box-with : (r : Option (List Interval)) (b : List Interval) (k : ℕ) (i : Interval) (lo hi : List ℤ) → lo ≡ set (los b) k i.lo → hi ≡ set (his b) k i.hi →
    IfSome r (λ o. los o ≡ lo) → IfSome r (λ o. his o ≡ hi) → IfSome r (λ o. o ≡ set b k i)
box-with None b k i lo hi e f g h = tt
box-with (Some o) b k i lo hi e f g h =
    same_ends o (set b k i) (g ∙ e ∙ sym (map-set (λ (j : Interval). j.lo) b k i)) (h ∙ f ∙ sym (map-set (λ (j : Interval). j.hi) b k i))

-- ---- one axis
either-first : (x y : Bool) → x ≡ true → (x || y) ≡ true
either-first true y e = refl
either-first false y e = absurd (true≢false (sym e))

either-second : (x y : Bool) → y ≡ true → (x || y) ≡ true
either-second true y e = refl
either-second false y e = e

-- what meets the one interval and begins or ends beyond the other meets what is between their lower ends, or their upper ones
left-behind : (i j low high m : Interval) → m.lo ≤ℤ m.hi → low.lo ≤ℤ i.lo → j.lo ≤ℤ low.hi → high.lo ≤ℤ j.hi → i.hi ≤ℤ high.hi →
    meet i m ≡ true → meet j m ≡ false → (meet low m || meet high m) ≡ true
left-behind i j low high m ordered a b c d e f = elim (cases_Bool (int_le j.lo m.hi)) [
  | inl h ↦ elim (cases_Bool (int_le m.lo j.hi)) [
    | inl k ↦ absurd (true≢false (sym (and_from (int_le j.lo m.hi) (int_le m.lo j.hi) h k) ∙ f))
    | inr k ↦
        let parts = and_parts (int_le i.lo m.hi) (int_le m.lo i.hi) e in
        let hi = int_le-true m.lo i.hi parts.1 in
        let beyond = int_le-false m.lo j.hi k in
        either-second (meet low m) (meet high m) (and_from (int_le high.lo m.hi) (int_le m.lo high.hi)
        (int_le-from high.lo m.hi (omega (arith, ints, c, beyond, ordered)))
        (int_le-from m.lo high.hi (omega (arith, ints, d, hi))))
  ]
  | inr h ↦
      let parts = and_parts (int_le i.lo m.hi) (int_le m.lo i.hi) e in
      let lo = int_le-true i.lo m.hi parts.0 in
      let beyond = int_le-false j.lo m.hi h in
      either-first (meet low m) (meet high m) (and_from (int_le low.lo m.hi) (int_le m.lo low.hi)
      (int_le-from low.lo m.hi (omega (arith, ints, a, lo)))
      (int_le-from m.lo low.hi (omega (arith, ints, b, beyond, ordered))))
]

abbrev pub lows : Interval → Interval → Interval
lows i j = between i.lo j.lo

abbrev pub highs : Interval → Interval → Interval
highs i j = between i.hi j.hi

told-meets : (i j m : Interval) → m.lo ≤ℤ m.hi → (x y : Bool) → meet i m ≡ x → meet j m ≡ y → is_some (told_of_window x y) ≡ true → (meet (lows i j) m || meet (highs i j) m) ≡ true
told-meets i j m ordered true true e f told = absurd (true≢false (sym told))
told-meets i j m ordered false false e f told = absurd (true≢false (sym told))
told-meets i j m ordered true false e f told =
    left-behind i j (lows i j) (highs i j) m ordered (omega (arith, ints, clamps)) (omega (arith, ints, clamps)) (omega (arith, ints, clamps)) (omega (arith, ints, clamps)) e f
told-meets i j m ordered false true e f told =
    left-behind j i (lows i j) (highs i j) m ordered (omega (arith, ints, clamps)) (omega (arith, ints, clamps)) (omega (arith, ints, clamps)) (omega (arith, ints, clamps)) f e

-- ---- all axes
with-rest : (x y t : Bool) → t ≡ true → (x || y) ≡ true → ((x && t) || (y && t)) ≡ true
with-rest true y true e f = refl
with-rest false true true e f = refl
with-rest false false t e f = absurd (true≢false (sym f))
with-rest true y false e f = absurd (true≢false (sym e))
with-rest false true false e f = absurd (true≢false (sym e))

on-one : (i j m : Interval) → m.lo ≤ℤ m.hi → (t : Bool) → is_some (told_of_window (meet i m && t) (meet j m && t)) ≡ true →
    ((meet (lows i j) m && t) || (meet (highs i j) m && t)) ≡ true
on-one i j m ordered true told = with-rest (meet (lows i j) m) (meet (highs i j) m) true refl (told-meets i j m ordered (meet i m) (meet j m) refl refl (both (meet i m) (meet j m) told))
  where
    both : (x y : Bool) → is_some (told_of_window (x && true) (y && true)) ≡ true → is_some (told_of_window x y) ≡ true
    both true true e = e
    both true false e = e
    both false true e = e
    both false false e = e
on-one i j m ordered false told = absurd (none (meet i m) (meet j m) told)
  where
    none : (x y : Bool) → is_some (told_of_window (x && false) (y && false)) ≡ true → ⊥
    none true true e = true≢false (sym e)
    none true false e = true≢false (sym e)
    none false true e = true≢false (sym e)
    none false false e = true≢false (sym e)

later : (x s t p q : Bool) → is_some (told_of_window (x && s) (x && t)) ≡ true → (is_some (told_of_window s t) ≡ true → (p || q) ≡ true) → ((x && p) || (x && q)) ≡ true
later true s t p q told more = more told
later false s t p q told more = absurd (true≢false (sym told))

pub told-touches : (a : List Interval) (k : ℕ) (j : Interval) (i : Interval) → get_or a k i ≡ i → k < length a → (other : List Interval) → AllByRecursion (λ m. m.lo ≤ℤ m.hi) other →
    is_some (told_of_window (touch a other) (touch (set a k j) other)) ≡ true → (touch (set a k (lows i j)) other || touch (set a k (highs i j)) other) ≡ true
told-touches [] k j i is short other ordered told = absurd (omega (arith, short))
told-touches (x ∷ a) zero j i is short [] ordered told = absurd (true≢false (sym told))
told-touches (x ∷ a) (suc k) j i is short [] ordered told = absurd (true≢false (sym told))
told-touches (x ∷ a) zero j i is short (m ∷ other) ordered told =
    subst (λ (z : Interval). ((meet (lows z j) m && touch a other) || (meet (highs z j) m && touch a other)) ≡ true) is (on-one x j m ordered.0 (touch a other) told)
told-touches (x ∷ a) (suc k) j i is short (m ∷ other) ordered told =
    later (meet x m) (touch a other) (touch (set a k j) other) (touch (set a k (lows i j)) other) (touch (set a k (highs i j)) other) told
    (told-touches a k j i is (omega (arith, short)) other ordered.1)

pub held-between : (x y : ℤ) → FitsSigned w32 x → FitsSigned w32 y → between (to_z w32 (of_z w32 x)) (to_z w32 (of_z w32 y)) ≡ between x y
held-between x y fits more = ap (λ (z : ℤ). between z (to_z w32 (of_z w32 y))) (to_z-of_z w32 x fits) ∙ ap (λ (z : ℤ). between x z) (to_z-of_z w32 y more)

-- the boxes that the code makes: two that differ on one axis, and the strips
pub strips-cover : {D : ℕ} (a b low high : List Interval) (k : ℕ) (i j : Interval) → get_or a k i ≡ i → k < length a → b ≡ set a k j → low ≡ set a k (lows i j) → high ≡ set a k (highs i j) →
    CoversTold D (Some a) (Some b) low high
strips-cover a b low high k i j is short moved e f = λ other box told.
    let so = told-touches a k j i is short other (recursion_from_All _ other box.ordered) (subst (λ (c : List Interval). is_some (told_of_window (touch a other) (touch c other)) ≡ true) moved told) in
    ap (λ (c : List Interval). touch c other || touch high other) e ∙ ap (λ (c : List Interval). touch (set a k (lows i j)) other || touch c other) f ∙ so

-- ---- the rows of a tree
module _ {X Y : Type 0} (f : X → List Y) (p : X → Bool) where
  one-more : (x : X) (xs : List X) → flat_map f (filter p xs) ≡ flat_map f xs → (p x ≡ false → f x ≡ []) → (b : Bool) → p x ≡ b →
      flat_map f (cond b (x ∷ filter p xs) (filter p xs)) ≡ f x ++ flat_map f xs
  one-more x xs rest silent true is = ap (λ (ys : List Y). f x ++ ys) rest
  one-more x xs rest silent false is = rest ∙ sym (ap (λ (ys : List Y). ys ++ flat_map f xs) (silent is))

  -- what doesn't pass gives nothing, so it may be left out
  without-silent : (xs : List X) → ((x : X) → Contains xs x → p x ≡ false → f x ≡ []) → flat_map f (filter p xs) ≡ flat_map f xs
  without-silent [] silent = refl
  without-silent (x ∷ xs) silent =
      one-more x xs (without-silent xs (λ y there. silent y (contains-later x y xs there))) (silent x (contains-here x xs)) (p x) refl

module _ {D : ℕ} (s : ShadowLists D) (shape : IsInShape s) (boxes : HasBoxes s) where
  by_id-boxes : (r : Row D) → Contains (by_id (rows_of s)) r → IsBox D r.rect
  by_id-boxes r there =
      let some : 0 < count_by (same_row r) (by_id (rows_of s)) = count-some (same_row r) (by_id (rows_of s)) there.0 r there.1 (ap (same_row r) there.2 ∙ row-itself r) in
      let found = counted-contained (same_row r) (rows_of s) (omega (arith, some, by_id-counts s shape (same_row r))) in
      let same = row-same r found.0 found.2 in
      subst (λ (q : Row D). IsBox D q.rect) (sym same) (row_is_box s boxes found.0 found.1)

  module _ (window : ℤ) (was is : Option (List Interval)) (low high : List Interval) (covers : CoversTold D was is low high) where
    untold : (other : List Interval) → IsBox D other → (touch low other || touch high other) ≡ false → is_told_of was is other ≡ false
    untold other box e = elim (cases_Bool (is_told_of was is other)) [
      | inl h ↦ absurd (true≢false (sym (covers other box h) ∙ e))
      | inr h ↦ h
    ]

    pub window-covered : window_changes (filter (touches_either (Some low) (Some high)) (by_id (rows_of s))) window was is ≡ window_changes (by_id (rows_of s)) window was is
    window-covered =
        without-silent (λ (r : Row D). listed window r.id (told_of_window (touches was r.rect) (touches is r.rect))) (touches_either (Some low) (Some high))
        (by_id (rows_of s))
        (λ r there e. silent_untold window r.id (told_of_window (touches was r.rect) (touches is r.rect)) (untold r.rect (by_id-boxes r there) e))
