-- Lemmas on numbers that are compared at once, each in a lane.
use Rattle.std.proofs.Common.{◌≡◌, ℕ, ◌+◌, ◌-◌, ◌*◌, ◌/◌, ◌%◌, ◌^◌, ◌≤◌, ◌≤ℤ◌, ◌<ℤ◌, ◌+ℤ◌, ◌-ℤ◌, ◌↔◌, eqb, cond, rules, IsTrue, Bool, true, false, not, ◌||◌, ℤ, pos, negsuc, get_or, List, [], ◌∷◌, map, bit_or, arith, refl, ap, ap₂, sym, subst, ◌∙◌, w8, w32, FitsSigned, to_z, of_z}
use Rattle.std.proofs.lemmas.Bool.{true≢false, not-true, not-false, not_from_true, not_from_false, eqb-true, eq-eqb}
use Rattle.std.proofs.lemmas.Int.{ints, to_z-of_z, by_lt_z}
use Rattle.std.specs.Int.Signed.{lt_z}
use lib.Lanes.{top, mask_l, zip2}
use Rattle.rt_box.specs.declared.interval.Interval.{Interval}
use Rattle.rt_box.specs.declared.window.Ends.{Ends}
use Rattle.rt_box.specs.Bits.{Tells, lane, mask, AreLanes, IsClear}
use Rattle.rt_box.specs.Ends.{AdmitsSide}
use Rattle.rt_box.specs.Interval.{HasNumbers, Includes, FitsEnds}

-- the bit of a lane where one comparison or the other holds
abbrev bit : Bool → Bool → ℕ
bit s t = cond (top 31 (bit_or (cond s (2 ^ 32 - 1) 0) (cond t (2 ^ 32 - 1) 0))) 1 0

bit-zero : (s t : Bool) → bit s t ≡ 0 → (s ≡ false) × (t ≡ false)
bit-zero false false e = (refl, refl)
bit-zero false true e = absurd (omega (arith, e))
bit-zero true false e = absurd (omega (arith, e))
bit-zero true true e = absurd (omega (arith, e))

bit_from : (s t : Bool) → s ≡ false → t ≡ false → bit s t ≡ 0
bit_from false false p q = refl
bit_from false true p q = absurd (true≢false q)
bit_from true t p q = absurd (true≢false p)

bit-le : (s t : Bool) → bit s t ≤ 1
bit-le false false = omega arith
bit-le false true = omega arith
bit-le true false = omega arith
bit-le true true = omega arith

-- a number that a lane holds
abbrev held : ℤ → ℤ
held z = to_z w32 (of_z w32 z)

-- ---- four bits
-- a bit for each of four elements, which is set where a property holds
Tells-bits : {X : Type 0} (P : X → Type 0) (a b c d : X) (p q r s : ℕ) → p ≤ 1 → q ≤ 1 → r ≤ 1 → s ≤ 1 →
    (p ≡ 1 ↔ P a) → (q ≡ 1 ↔ P b) → (r ≡ 1 ↔ P c) → (s ≡ 1 ↔ P d) →
    Tells P (a ∷ b ∷ c ∷ d ∷ []) ((p + 2 * (q + 2 * (r + 2 * (s + 2 * 0)))) % 2 ^ 64)
Tells-bits P a b c d p q r s p1 q1 r1 s1 first second third fourth =
    let bits = (p + 2 * (q + 2 * (r + 2 * (s + 2 * 0)))) % 2 ^ 64 in
    let t : bits % 2 ≡ p = omega (arith, p1, q1, r1, s1) in
    let u : bits / 2 % 2 ≡ q = omega (arith, p1, q1, r1, s1) in
    let v : bits / 2 / 2 % 2 ≡ r = omega (arith, p1, q1, r1, s1) in
    let w : bits / 2 / 2 / 2 % 2 ≡ s = omega (arith, p1, q1, r1, s1) in (
      (λ o. first.0 (sym t ∙ o), λ h. t ∙ first.1 h),
      (
        (λ o. second.0 (sym u ∙ o), λ h. u ∙ second.1 h),
        (
          (λ o. third.0 (sym v ∙ o), λ h. v ∙ third.1 h),
          ((λ o. fourth.0 (sym w ∙ o), λ h. w ∙ fourth.1 h), omega (arith, p1, q1, r1, s1)),
        ),
      ),
    )

-- bits that stand for what a property doesn't hold of, taken from the four lowest bits, leave those that it holds of
Tells-others : {X : Type 0} (P : X → Type 0) (a b c d : X) (p q r s : ℕ) → p ≤ 1 → q ≤ 1 → r ≤ 1 → s ≤ 1 →
    (p ≡ 0 ↔ P a) → (q ≡ 0 ↔ P b) → (r ≡ 0 ↔ P c) → (s ≡ 0 ↔ P d) →
    Tells P (a ∷ b ∷ c ∷ d ∷ []) (15 - (p + 2 * (q + 2 * (r + 2 * (s + 2 * 0)))) % 2 ^ 64)
Tells-others P a b c d p q r s p1 q1 r1 s1 first second third fourth =
    let others = (1 - p + 2 * (1 - q + 2 * (1 - r + 2 * (1 - s + 2 * 0)))) % 2 ^ 64 in
    let is : others ≡ 15 - (p + 2 * (q + 2 * (r + 2 * (s + 2 * 0)))) % 2 ^ 64 = omega (arith, p1, q1, r1, s1) in
    subst (Tells P (a ∷ b ∷ c ∷ d ∷ [])) is
    (Tells-bits P a b c d (1 - p) (1 - q) (1 - r) (1 - s) (omega arith) (omega arith) (omega arith) (omega arith)
    ((λ o. first.0 (omega (arith, o, p1))), (λ h. omega (arith, first.1 h)))
    ((λ o. second.0 (omega (arith, o, q1))), (λ h. omega (arith, second.1 h)))
    ((λ o. third.0 (omega (arith, o, r1))), (λ h. omega (arith, third.1 h)))
    ((λ o. fourth.0 (omega (arith, o, s1))), (λ h. omega (arith, fourth.1 h))))

-- ---- four sides, each number in a lane
-- the lanes of a comparison that holds everywhere or nowhere
abbrev lanes : Bool → ℕ
lanes s = cond s (2 ^ 32 - 1) 0

lanes-or : (s t : Bool) → bit_or (lanes s) (lanes t) ≡ lanes (s || t)
lanes-or true true = refl
lanes-or true false = refl
lanes-or false true = refl
lanes-or false false = refl

or-none : (s t : Bool) → (s || t) ≡ false → (s ≡ false) × (t ≡ false)
or-none true t e = absurd (true≢false e)
or-none false t e = (refl, e)

or_none : (s t : Bool) → s ≡ false → t ≡ false → (s || t) ≡ false
or_none true t p q = p
or_none false t p q = q

-- the bit of a lane where one of four comparisons holds
abbrev bit-four : Bool → Bool → Bool → Bool → ℕ
bit-four s t u v = cond (top 31 (bit_or (bit_or (lanes s) (lanes t)) (bit_or (lanes u) (lanes v)))) 1 0

bit-four_is : (s t u v : Bool) → bit-four s t u v ≡ bit (s || t) (u || v)
bit-four_is s t u v = rw (lanes-or s t, lanes-or u v) refl

bit-four-le : (s t u v : Bool) → bit-four s t u v ≤ 1
bit-four-le s t u v = omega (arith, bit-four_is s t u v, bit-le (s || t) (u || v))

-- the comparisons of a side's numbers, which came to their lanes from others
abbrev lo_before : Ends → Interval → Bool
lo_before e side = lt_z (held (held side.lo)) (held e.lo.lo)

abbrev hi_before : Ends → Interval → Bool
hi_before e side = lt_z (held (held side.hi)) (held e.hi.lo)

abbrev lo_behind : Ends → Interval → Bool
lo_behind e side = lt_z (held e.lo.hi) (held (held side.lo))

abbrev hi_behind : Ends → Interval → Bool
hi_behind e side = lt_z (held e.hi.hi) (held (held side.hi))

-- the bit of a side that isn't admitted
abbrev pub refused : Ends → Interval → ℕ
refused e side = bit-four (lo_before e side) (hi_before e side) (lo_behind e side) (hi_behind e side)

refused-le : (e : Ends) (side : Interval) → refused e side ≤ 1
refused-le e side = bit-four-le (lo_before e side) (hi_before e side) (lo_behind e side) (hi_behind e side)

not_before : (least z : ℤ) → FitsSigned w32 least → FitsSigned w32 z → lt_z (held (held z)) (held least) ≡ false ↔ (least ≤ℤ z)
not_before least z fits in_z = ((λ e. grind (arith, ints, e, fits, in_z)), (λ h. grind (arith, ints, h, fits, in_z)))

not_behind : (greatest z : ℤ) → FitsSigned w32 greatest → FitsSigned w32 z → lt_z (held greatest) (held (held z)) ≡ false ↔ (z ≤ℤ greatest)
not_behind greatest z fits in_z = ((λ e. grind (arith, ints, e, fits, in_z)), (λ h. grind (arith, ints, h, fits, in_z)))

refused-zero : (e : Ends) (side : Interval) → FitsEnds e.lo → FitsEnds e.hi → FitsEnds side → refused e side ≡ 0 ↔ AdmitsSide e side
refused-zero e side in_lo in_hi in_side =
    let before = (lo_before e side || hi_before e side) in
    let behind = (lo_behind e side || hi_behind e side) in
    let is : refused e side ≡ bit before behind = bit-four_is (lo_before e side) (hi_before e side) (lo_behind e side) (hi_behind e side) in
    let a = not_before e.lo.lo side.lo in_lo.0 in_side.0 in
    let b = not_before e.hi.lo side.hi in_hi.0 in_side.1 in
    let c = not_behind e.lo.hi side.lo in_lo.1 in_side.0 in
    let d = not_behind e.hi.hi side.hi in_hi.1 in_side.1 in (
      (λ z.
          let both = bit-zero before behind (sym is ∙ z) in
          let first = or-none (lo_before e side) (hi_before e side) both.0 in
          let last = or-none (lo_behind e side) (hi_behind e side) both.1 in
          ((a.0 first.0, c.0 last.0), (b.0 first.1, d.0 last.1))),
      (λ h. is ∙ bit_from before behind
          (or_none (lo_before e side) (hi_before e side) (a.1 h.0.0) (b.1 h.1.0))
          (or_none (lo_behind e side) (hi_behind e side) (c.1 h.0.1) (d.1 h.1.1))),
    )

-- the other bits are set
pub told_four : (e : Ends) (a b c d : Interval) → FitsEnds e.lo → FitsEnds e.hi → FitsEnds a → FitsEnds b → FitsEnds c → FitsEnds d →
    Tells (AdmitsSide e) (a ∷ b ∷ c ∷ d ∷ []) (15 - (refused e a + 2 * (refused e b + 2 * (refused e c + 2 * (refused e d + 2 * 0)))) % 2 ^ 64)
told_four e a b c d in_lo in_hi in_a in_b in_c in_d =
    Tells-others (AdmitsSide e) a b c d (refused e a) (refused e b) (refused e c) (refused e d) (refused-le e a) (refused-le e b) (refused-le e c) (refused-le e d)
    (refused-zero e a in_lo in_hi in_a) (refused-zero e b in_lo in_hi in_b) (refused-zero e c in_lo in_hi in_c) (refused-zero e d in_lo in_hi in_d)

-- ---- masks
abbrev is_negative : ℤ → Bool
is_negative (pos n) = false
is_negative (negsuc n) = true

lane-clear : (s : Bool) → lane s ≡ pos 0 → s ≡ false
lane-clear true e = absurd (true≢false (ap is_negative e))
lane-clear false e = refl

-- four lanes are clear exactly where none of them is set
pub clear_is : (s t u v : Bool) (lanes : List ℤ) → lanes ≡ mask s t u v → ((s || t) || (u || v)) ≡ false ↔ IsClear lanes
clear_is s t u v lanes is = (
  (λ none.
      let halves = or-none (s || t) (u || v) none in
      let front = or-none s t halves.0 in
      let back = or-none u v halves.1 in
      is ∙ rw (front.0, front.1, back.0, back.1) refl),
  (λ clear.
      let same = sym is ∙ clear in
      or_none (s || t) (u || v)
      (or_none s t (lane-clear s (ap (λ l. get_or l 0 (pos 0)) same)) (lane-clear t (ap (λ l. get_or l 1 (pos 0)) same)))
      (or_none u v (lane-clear u (ap (λ l. get_or l 2 (pos 0)) same)) (lane-clear v (ap (λ l. get_or l 3 (pos 0)) same)))),
)

held_lane : (s : Bool) → held (lane s) ≡ lane s
held_lane true = refl
held_lane false = refl

-- a mask that is handed on is the same
pub handed_mask : (s t u v : Bool) (lanes : List ℤ) → lanes ≡ mask s t u v → map (to_z w32) (map (of_z w32) lanes) ≡ mask s t u v
handed_mask s t u v lanes is = rw is (rw (held_lane s, held_lane t, held_lane u, held_lane v) refl)

abbrev pub handed : List ℤ → List ℤ
handed lanes = map (to_z w32) (map (of_z w32) lanes)

pub handed_lanes : (lanes : List ℤ) → AreLanes lanes → AreLanes (handed lanes)
handed_lanes lanes are = let (s, t, u, v, is) = are in (s, t, u, v, handed_mask s t u v lanes is)

pub handed_clear : (lanes : List ℤ) → AreLanes lanes → IsClear (handed lanes) ↔ IsClear lanes
handed_clear lanes are =
    let (s, t, u, v, is) = are in
    let same : handed lanes ≡ lanes = handed_mask s t u v lanes is ∙ sym is in
    ((λ h. sym same ∙ h), (λ h. same ∙ h))

-- the bit of a lane
abbrev bit_of : Bool → ℕ
bit_of s = cond (top 31 (of_z w32 (lane s))) 1 0

bit_of-le : (s : Bool) → bit_of s ≤ 1
bit_of-le true = omega arith
bit_of-le false = omega arith

bit_of-zero : (s : Bool) → bit_of s ≡ 0 → s ≡ false
bit_of-zero true e = absurd (omega (arith, e))
bit_of-zero false e = refl

bit_of-clear : (s : Bool) → s ≡ false → bit_of s ≡ 0
bit_of-clear true e = absurd (true≢false e)
bit_of-clear false e = refl

-- ---- four masks, each lane narrowed to a byte
-- the mask that says whether a mask's lane is negative, and what it gives as a byte
abbrev negative : Bool → ℤ
negative s = to_z w32 (cond (lt_z (to_z w32 (cond (lt_z (to_z w32 (cond (top 31 (of_z w32 (lane s))) (2 ^ 32 - 1) 0)) (pos 0)) (2 ^ 32 - 1) 0)) (pos 0)) (2 ^ 32 - 1) 0)

abbrev byte_made : Bool → ℕ
byte_made s = cond (top 7 (of_z w8 (negative s))) 255 0

byte_made-le : (s : Bool) → byte_made s ≤ 255
byte_made-le true = omega arith
byte_made-le false = omega arith

-- the number that begins with the four bytes of a mask, the lowest first
abbrev pub number_made : Bool → Bool → Bool → Bool → ℕ → ℕ
number_made s t u v rest = byte_made s + 256 * (byte_made t + 256 * (byte_made u + 256 * (byte_made v + 256 * rest)))

abbrev word_made : Bool → Bool → Bool → Bool → ℕ
word_made s t u v = number_made s t u v 0

-- the lowest word of such a number is that of the four bytes
low_word : (s t u v : Bool) (rest : ℕ) → (number_made s t u v rest % 2 ^ 32 ≡ word_made s t u v) × (number_made s t u v rest / 2 ^ 32 ≡ rest)
low_word s t u v rest =
    let p = byte_made-le s in
    let q = byte_made-le t in
    let r = byte_made-le u in
    let o = byte_made-le v in
    (omega (arith, p, q, r, o), omega (arith, p, q, r, o))

-- the bit of a word, which is set if the word is 0
abbrev zero_bit : ℕ → ℕ
zero_bit n = cond (top 31 (cond (eqb n 0) (2 ^ 32 - 1) 0)) 1 0

zero_bit_is : (s t u v : Bool) → zero_bit (word_made s t u v) ≡ cond ((s || t) || (u || v)) 0 1
zero_bit_is true true true true = refl
zero_bit_is true true true false = refl
zero_bit_is true true false true = refl
zero_bit_is true true false false = refl
zero_bit_is true false true true = refl
zero_bit_is true false true false = refl
zero_bit_is true false false true = refl
zero_bit_is true false false false = refl
zero_bit_is false true true true = refl
zero_bit_is false true true false = refl
zero_bit_is false true false true = refl
zero_bit_is false true false false = refl
zero_bit_is false false true true = refl
zero_bit_is false false true false = refl
zero_bit_is false false false true = refl
zero_bit_is false false false false = refl

cleared : (set : Bool) (bit : ℕ) → bit ≡ cond set 0 1 → (bit ≤ 1) × (bit ≡ 1 ↔ set ≡ false)
cleared true bit is = (omega (arith, is), ((λ o. absurd (omega (arith, is, o))), (λ e. absurd (true≢false e))))
cleared false bit is = (omega (arith, is), ((λ o. refl), (λ e. is)))

-- the bits of four words that are 0
abbrev pub zero_bits : ℕ → ℕ
zero_bits n = (zero_bit (n % 2 ^ 32) + 2 * (zero_bit (n / 2 ^ 32 % 2 ^ 32)
    + 2 * (zero_bit (n / 2 ^ 32 / 2 ^ 32 % 2 ^ 32) + 2 * (zero_bit (n / 2 ^ 32 / 2 ^ 32 / 2 ^ 32 % 2 ^ 32) + 2 * 0)))) % 2 ^ 64

pub told_clear : (s t u v w x y z l m n o p q r i : Bool) →
    Tells IsClear (mask s t u v ∷ mask w x y z ∷ mask l m n o ∷ mask p q r i ∷ [])
    (zero_bits (number_made s t u v (number_made w x y z (number_made l m n o (number_made p q r i 0)))))
told_clear s t u v w x y z l m n o p q r i =
    let first = clear_is s t u v (mask s t u v) refl in
    let second = clear_is w x y z (mask w x y z) refl in
    let third = clear_is l m n o (mask l m n o) refl in
    let fourth = clear_is p q r i (mask p q r i) refl in
    let last = number_made p q r i 0 in
    let back = number_made l m n o last in
    let others = number_made w x y z back in
    let all = number_made s t u v others in
    let one = low_word s t u v others in
    let two = low_word w x y z back in
    let three = low_word l m n o last in
    let four = low_word p q r i 0 in
    let e = cleared ((s || t) || (u || v)) (zero_bit (all % 2 ^ 32)) (ap zero_bit one.0 ∙ zero_bit_is s t u v) in
    let f = cleared ((w || x) || (y || z)) (zero_bit (all / 2 ^ 32 % 2 ^ 32)) (ap (λ k. zero_bit (k % 2 ^ 32)) one.1 ∙ ap zero_bit two.0 ∙ zero_bit_is w x y z) in
    let g = cleared ((l || m) || (n || o)) (zero_bit (all / 2 ^ 32 / 2 ^ 32 % 2 ^ 32))
    (ap (λ k. zero_bit (k / 2 ^ 32 % 2 ^ 32)) one.1 ∙ ap (λ k. zero_bit (k % 2 ^ 32)) two.1 ∙ ap zero_bit three.0 ∙ zero_bit_is l m n o) in
    let h = cleared ((p || q) || (r || i)) (zero_bit (all / 2 ^ 32 / 2 ^ 32 / 2 ^ 32 % 2 ^ 32))
    (ap (λ k. zero_bit (k / 2 ^ 32 / 2 ^ 32 % 2 ^ 32)) one.1 ∙ ap (λ k. zero_bit (k / 2 ^ 32 % 2 ^ 32)) two.1 ∙ ap (λ k. zero_bit (k % 2 ^ 32)) three.1
    ∙ ap zero_bit four.0 ∙ zero_bit_is p q r i) in
    Tells-bits IsClear (mask s t u v) (mask w x y z) (mask l m n o) (mask p q r i) (zero_bit (all % 2 ^ 32)) (zero_bit (all / 2 ^ 32 % 2 ^ 32)) (zero_bit (all / 2 ^ 32 / 2 ^ 32 % 2 ^ 32))
    (zero_bit (all / 2 ^ 32 / 2 ^ 32 / 2 ^ 32 % 2 ^ 32)) e.0 f.0 g.0 h.0
    ((λ k. first.0 (e.1.0 k)), (λ k. e.1.1 (first.1 k))) ((λ k. second.0 (f.1.0 k)), (λ k. f.1.1 (second.1 k)))
    ((λ k. third.0 (g.1.0 k)), (λ k. g.1.1 (third.1 k))) ((λ k. fourth.0 (h.1.0 k)), (λ k. h.1.1 (fourth.1 k)))

-- a lane that a comparison gives fits a byte
pub set_fits : (s : Bool) → FitsSigned w8 (to_z w32 (cond s (2 ^ 32 - 1) 0))
set_fits true = search rules
set_fits false = search rules

-- ---- numbers outside their intervals
-- the comparisons of a number with an interval's ends, which came to their lanes from others
abbrev pub is_outside : Interval → ℤ → Bool
is_outside i z = lt_z (held z) (held (held i.lo)) || lt_z (held (held i.hi)) (held z)

outside-false : (i : Interval) (z : ℤ) → FitsEnds i → FitsSigned w32 z → is_outside i z ≡ false ↔ Includes i z
outside-false i z ends fits = (
  (λ e.
      let none = or-none (lt_z (held z) (held (held i.lo))) (lt_z (held (held i.hi)) (held z)) e in
      let lo = none.0 in
      let hi = none.1 in
      (grind (arith, ints, lo, ends, fits), grind (arith, ints, hi, ends, fits))),
  (λ h. or_none (lt_z (held z) (held (held i.lo))) (lt_z (held (held i.hi)) (held z)) (grind (arith, ints, h, ends, fits)) (grind (arith, ints, h, ends, fits))),
)

-- the lane that they give
abbrev pub outside_lane : Interval → ℤ → ℤ
outside_lane i z = to_z w32 (bit_or (lanes (lt_z (held z) (held (held i.lo)))) (lanes (lt_z (held (held i.hi)) (held z))))

lane_of_two : (s t : Bool) → to_z w32 (bit_or (lanes s) (lanes t)) ≡ lane (s || t)
lane_of_two true true = refl
lane_of_two true false = refl
lane_of_two false true = refl
lane_of_two false false = refl

-- no lane is set exactly where four facts hold, of which the lanes tell
four_clear : (a b c d : Bool) (P Q R S : Type 0) (lanes : List ℤ) → lanes ≡ mask a b c d → (a ≡ false ↔ P) → (b ≡ false ↔ Q) → (c ≡ false ↔ R) → (d ≡ false ↔ S) →
    IsClear lanes ↔ ((P × Q) × (R × S))
four_clear a b c d P Q R S lanes is p q r s =
    let clear = clear_is a b c d lanes is in (
      (λ h.
          let halves = or-none (a || b) (c || d) (clear.1 h) in
          let front = or-none a b halves.0 in
          let back = or-none c d halves.1 in
          ((p.0 front.0, q.0 front.1), (r.0 back.0, s.0 back.1))),
      (λ h. clear.0 (or_none (a || b) (c || d) (or_none a b (p.1 h.0.0) (q.1 h.0.1)) (or_none c d (r.1 h.1.0) (s.1 h.1.1)))),
    )

-- ---- the same, where the interval has a number, by one comparison
-- where a number stands once the circle of numbers is turned until the least one is first
abbrev turned : ℤ → ℤ → ℤ
turned least z = to_z w32 ((of_z w32 z + (2 ^ 32 - (of_z w32 (held least) + 2 ^ 31) % 2 ^ 32)) % 2 ^ 32)

turned_above : (least z : ℤ) → FitsSigned w32 least → FitsSigned w32 z → least ≤ℤ z → turned least z ≡ (z -ℤ least) +ℤ negsuc (2 ^ 31 - 1)
turned_above least z fits in_z h = grind (arith, ints, fits, in_z, h)

turned_below : (least z : ℤ) → FitsSigned w32 least → FitsSigned w32 z → z <ℤ least → turned least z ≡ (z -ℤ least) +ℤ pos (2 ^ 31)
turned_below least z fits in_z h = grind (arith, ints, fits, in_z, h)

abbrev pub is_beyond : Interval → ℤ → Bool
is_beyond i z = lt_z (turned i.lo (held i.hi)) (turned i.lo z)

beyond-false : (i : Interval) (z : ℤ) → FitsEnds i → FitsSigned w32 z → HasNumbers i → is_beyond i z ≡ false ↔ Includes i z
beyond-false i z ends fits some =
    let greatest = ap (turned i.lo) (to_z-of_z w32 i.hi ends.1) ∙ turned_above i.lo i.hi ends.0 ends.1 some in
    by_lt_z z i.lo
    (λ below.
    let is = turned_below i.lo z ends.0 fits below in
    ((λ e. absurd (grind (arith, ints, e, greatest, is, below, fits, ends))), (λ h. absurd (omega (arith, ints, h.0, below)))))
    (λ from.
    let is = turned_above i.lo z ends.0 fits from in
    ((λ e. (from, grind (arith, ints, e, greatest, is))), (λ h. grind (arith, ints, h, greatest, is))))

-- the lane that it gives
abbrev pub beyond_lane : Interval → ℤ → ℤ
beyond_lane i z = to_z w32 (lanes (is_beyond i z))

lane_of_one : (s : Bool) → to_z w32 (lanes s) ≡ lane s
lane_of_one true = refl
lane_of_one false = refl

-- ---- four numbers and their intervals
module _ (i j k l : Interval) (x y z u : ℤ) where
  pub outside_mask : outside_lane i x ∷ outside_lane j y ∷ outside_lane k z ∷ outside_lane l u ∷ [] ≡ mask (is_outside i x) (is_outside j y) (is_outside k z) (is_outside l u)
  outside_mask =
      ap₂ (λ a r. a ∷ r) (lane_of_two (lt_z (held x) (held (held i.lo))) (lt_z (held (held i.hi)) (held x)))
      (ap₂ (λ a r. a ∷ r) (lane_of_two (lt_z (held y) (held (held j.lo))) (lt_z (held (held j.hi)) (held y)))
      (ap₂ (λ a r. a ∷ r) (lane_of_two (lt_z (held z) (held (held k.lo))) (lt_z (held (held k.hi)) (held z)))
      (ap (λ a. a ∷ []) (lane_of_two (lt_z (held u) (held (held l.lo))) (lt_z (held (held l.hi)) (held u))))))

  -- no lane is set exactly where each number is in its interval
  pub none_outside : FitsEnds i → FitsEnds j → FitsEnds k → FitsEnds l → FitsSigned w32 x → FitsSigned w32 y → FitsSigned w32 z → FitsSigned w32 u →
      IsClear (outside_lane i x ∷ outside_lane j y ∷ outside_lane k z ∷ outside_lane l u ∷ []) ↔ ((Includes i x × Includes j y) × (Includes k z × Includes l u))
  none_outside in_i in_j in_k in_l in_x in_y in_z in_u =
      four_clear (is_outside i x) (is_outside j y) (is_outside k z) (is_outside l u) (Includes i x) (Includes j y) (Includes k z) (Includes l u)
      (outside_lane i x ∷ outside_lane j y ∷ outside_lane k z ∷ outside_lane l u ∷ []) outside_mask
      (outside-false i x in_i in_x) (outside-false j y in_j in_y) (outside-false k z in_k in_z) (outside-false l u in_l in_u)

  pub beyond_mask : beyond_lane i x ∷ beyond_lane j y ∷ beyond_lane k z ∷ beyond_lane l u ∷ [] ≡ mask (is_beyond i x) (is_beyond j y) (is_beyond k z) (is_beyond l u)
  beyond_mask =
      ap₂ (λ a r. a ∷ r) (lane_of_one (is_beyond i x)) (ap₂ (λ a r. a ∷ r) (lane_of_one (is_beyond j y))
      (ap₂ (λ a r. a ∷ r) (lane_of_one (is_beyond k z)) (ap (λ a. a ∷ []) (lane_of_one (is_beyond l u)))))

  pub none_beyond : FitsEnds i → FitsEnds j → FitsEnds k → FitsEnds l → FitsSigned w32 x → FitsSigned w32 y → FitsSigned w32 z → FitsSigned w32 u →
      HasNumbers i → HasNumbers j → HasNumbers k → HasNumbers l →
      IsClear (beyond_lane i x ∷ beyond_lane j y ∷ beyond_lane k z ∷ beyond_lane l u ∷ []) ↔ ((Includes i x × Includes j y) × (Includes k z × Includes l u))
  none_beyond in_i in_j in_k in_l in_x in_y in_z in_u i_some j_some k_some l_some =
      four_clear (is_beyond i x) (is_beyond j y) (is_beyond k z) (is_beyond l u) (Includes i x) (Includes j y) (Includes k z) (Includes l u)
      (beyond_lane i x ∷ beyond_lane j y ∷ beyond_lane k z ∷ beyond_lane l u ∷ []) beyond_mask
      (beyond-false i x in_i in_x i_some) (beyond-false j y in_j in_y j_some) (beyond-false k z in_k in_z k_some) (beyond-false l u in_l in_u l_some)

-- ---- two masks
or_lane : (s t : Bool) → to_z w32 (bit_or (of_z w32 (lane s)) (of_z w32 (lane t))) ≡ lane (s || t)
or_lane true true = refl
or_lane true false = refl
or_lane false true = refl
or_lane false false = refl

abbrev pub both : List ℤ → List ℤ → List ℤ
both a b = map (to_z w32) (zip2 bit_or (map (of_z w32) a) (map (of_z w32) b))

pub both_masks : (s t u v w x y z : Bool) (a b : List ℤ) → a ≡ mask s t u v → b ≡ mask w x y z → both a b ≡ mask (s || w) (t || x) (u || y) (v || z)
both_masks s t u v w x y z a b a_is b_is = rw (a_is, b_is) (rw (or_lane s w, or_lane t x, or_lane u y, or_lane v z) refl)

-- both together are clear exactly where each one is
pub both_clear : (a b : List ℤ) → AreLanes a → AreLanes b → IsClear (both a b) ↔ (IsClear a × IsClear b)
both_clear a b a_lanes b_lanes =
    let (s, t, u, v, a_is) = a_lanes in
    let (w, x, y, z, b_is) = b_lanes in
    let first = clear_is s t u v a a_is in
    let second = clear_is w x y z b b_is in
    let all = clear_is (s || w) (t || x) (u || y) (v || z) (both a b) (both_masks s t u v w x y z a b a_is b_is) in (
      (λ h.
          let halves = or-none ((s || w) || (t || x)) ((u || y) || (v || z)) (all.1 h) in
          let front = or-none (s || w) (t || x) halves.0 in
          let back = or-none (u || y) (v || z) halves.1 in
          let p = or-none s w front.0 in
          let q = or-none t x front.1 in
          let r = or-none u y back.0 in
          let o = or-none v z back.1 in (
            first.0 (or_none (s || t) (u || v) (or_none s t p.0 q.0) (or_none u v r.0 o.0)),
            second.0 (or_none (w || x) (y || z) (or_none w x p.1 q.1) (or_none y z r.1 o.1)),
          )),
      (λ h.
          let halves = or-none (s || t) (u || v) (first.1 h.0) in
          let others = or-none (w || x) (y || z) (second.1 h.1) in
          let front = or-none s t halves.0 in
          let back = or-none u v halves.1 in
          let other_front = or-none w x others.0 in
          let other_back = or-none y z others.1 in
          all.0 (or_none ((s || w) || (t || x)) ((u || y) || (v || z))
          (or_none (s || w) (t || x) (or_none s w front.0 other_front.0) (or_none t x front.1 other_front.1))
          (or_none (u || y) (v || z) (or_none u y back.0 other_back.0) (or_none v z back.1 other_back.1)))),
    )

-- whether no lane is set is read of the bits
pub none_set : (s t u v : Bool) (lanes : List ℤ) → lanes ≡ mask s t u v →
    IsTrue (not (not (eqb (mask_l (map (top 31) (map (of_z w32) lanes)) % 2 ^ 64) 0))) ↔ IsClear lanes
none_set s t u v lanes is =
    let clear = clear_is s t u v lanes is in
    let p = bit_of-le s in
    let q = bit_of-le t in
    let r = bit_of-le u in
    let o = bit_of-le v in
    let same : mask_l (map (top 31) (map (of_z w32) lanes)) % 2 ^ 64 ≡ (bit_of s + 2 * (bit_of t + 2 * (bit_of u + 2 * (bit_of v + 2 * 0)))) % 2 ^ 64 =
    ap (λ l. mask_l (map (top 31) (map (of_z w32) l)) % 2 ^ 64) is in (
      (λ h.
          let none = sym same ∙ eqb-true _ _ (not-false _ (not-true _ h)) in
          clear.0 (or_none (s || t) (u || v)
          (or_none s t (bit_of-zero s (omega (arith, p, q, r, o, none))) (bit_of-zero t (omega (arith, p, q, r, o, none))))
          (or_none u v (bit_of-zero u (omega (arith, p, q, r, o, none))) (bit_of-zero v (omega (arith, p, q, r, o, none)))))),
      (λ h.
          let halves = or-none (s || t) (u || v) (clear.1 h) in
          let front = or-none s t halves.0 in
          let back = or-none u v halves.1 in
          not_from_false _ (not_from_true _ (eq-eqb _ _ (same ∙ omega (arith, bit_of-clear s front.0, bit_of-clear t front.1, bit_of-clear u back.0, bit_of-clear v back.1))))),
    )
