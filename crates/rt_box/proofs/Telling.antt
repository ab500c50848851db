-- Lemmas on numbers whose bits tell of a list's elements.
use Rattle.std.proofs.Common.{◌≡◌, ℕ, zero, suc, ◌+◌, ◌*◌, ◌/◌, ◌%◌, ◌^◌, ◌-◌, ◌<◌, ◌≤◌, ◌↔◌, min, Bool, true, false, IsTrue, List, [], ◌∷◌, ◌++◌, All, length, take, drop, get_or, arith, refl, ap, ap₂, sym, subst, ◌∙◌, inl, inr}
use Rattle.std.proofs.Math.Nat.{two-pow-succ, pow-suc, mul_assoc, mul-le-mul_right, mod-lt, mod-eq_of_lt}
use Rattle.std.proofs.lemmas.Nat.{mod-pow-add, shl_whole, pow_pos}
use Rattle.std.proofs.Math.Pow.{pow_mono}
use Rattle.std.proofs.lemmas.List.{length-drop, drop_more, drop-take, length-take-le, take-take, take_all, take-append-drop}
use Rattle.std.proofs.lemmas.List.Elements.{All-cons, All-head, All-tail, All-append, All-take}
use Rattle.std.specs.Int.{from_bool}
use Rattle.std.proofs.lemmas.Bool.{cases_Bool, iff_false}
use Rattle.std.specs.Int.Bits.{bit_and}
use lib.Bits.{and_step, and_self}
use Rattle.rt_box.specs.Bits.{Tells}

-- what is left of a list from one place on, where the element there and what is left from the next one on are at hand
pub left_from : {X : Type 0} (xs : List X) (i j : ℕ) (x : X) (rest : List X) → i < length xs → i + 1 ≡ j → x ≡ get_or xs i x → drop j xs ≡ rest →
    drop i xs ≡ x ∷ rest
left_from xs i j x rest within next x_is rest_is =
    drop_more xs i x within ∙ ap₂ (λ a l. a ∷ l) (sym x_is) (ap (λ n. drop n xs) next ∙ rest_is)

pub four_left_from : {X : Type 0} (xs : List X) (i j : ℕ) (x y z u : X) → i + 4 ≡ j → j ≤ length xs → x ≡ get_or xs i x → y ≡ get_or xs (i + 1) y →
    z ≡ get_or xs (i + 2) z → u ≡ get_or xs (i + 3) u → drop i xs ≡ x ∷ y ∷ z ∷ u ∷ drop j xs
four_left_from xs i j x y z u next within x_is y_is z_is u_is =
    let rest = drop j xs in
    left_from xs i (i + 1) x (y ∷ z ∷ u ∷ rest) (omega (arith, next, within)) (omega arith) x_is
    (left_from xs (i + 1) (i + 2) y (z ∷ u ∷ rest) (omega (arith, next, within)) (omega arith) y_is
    (left_from xs (i + 2) (i + 3) z (u ∷ rest) (omega (arith, next, within)) (omega arith) z_is
    (left_from xs (i + 3) j u rest (omega (arith, next, within)) (omega (arith, next)) u_is refl)))

pub four-behind : {X : Type 0} (xs : List X) (i j : ℕ) → j ≡ i + 4 → take i xs ++ take 4 (drop i xs) ≡ take j xs
four-behind {X} xs i j next =
    ap₂ (λ (front back : List X). front ++ back) (sym (take-take i (i + 4) xs (omega arith))) (sym (drop-take i 4 xs))
    ∙ take-append-drop i (take (i + 4) xs) ∙ ap (λ n. take n xs) (sym next)

pub four_at : {X : Type 0} (xs : List X) (i : ℕ) (x y z u : X) → i + 4 ≤ length xs → x ≡ get_or xs i x → y ≡ get_or xs (i + 1) y →
    z ≡ get_or xs (i + 2) z → u ≡ get_or xs (i + 3) u → take 4 (drop i xs) ≡ x ∷ y ∷ z ∷ u ∷ []
four_at xs i x y z u within x_is y_is z_is u_is = ap (take 4) (four_left_from xs i (i + 4) x y z u refl within x_is y_is z_is u_is)

pub All-four : {X : Type 0} (P : X → Type 0) (x y z u : X) (xs : List X) → P x → P y → P z → P u → All P xs → All P (x ∷ y ∷ z ∷ u ∷ xs)
All-four P x y z u xs p q r s all =
    All-cons P x (y ∷ z ∷ u ∷ xs) p (All-cons P y (z ∷ u ∷ xs) q (All-cons P z (u ∷ xs) r (All-cons P u xs s all)))

-- the first ones up to the last four, and these, are all
pub last-four : {X : Type 0} (xs : List X) (last : ℕ) → last + 4 ≡ length xs → take last xs ++ take 4 (drop last xs) ≡ xs
last-four xs last long = four-behind xs last (length xs) (sym long) ∙ take_all (length xs) xs (omega arith)

-- a property of the first ones and of the last four is one of all
pub All-together : {X : Type 0} (P : X → Type 0) (xs : List X) (at last : ℕ) → last + 4 ≡ length xs → last ≤ at → All P (take at xs) →
    All P (take 4 (drop last xs)) → All P xs
All-together P xs at last long past front back =
    let first : All P (take last xs) = subst (λ l. All P l) (take-take last at xs past) (All-take P last (take at xs) front) in
    subst (λ l. All P l) (last-four xs last long) (All-append P (take last xs) (take 4 (drop last xs)) first back)

pub bit-le : (holds : Bool) (bit : ℕ) → bit ≡ from_bool holds → bit ≤ 1
bit-le true bit e = omega (arith, e)
bit-le false bit e = omega (arith, e)

-- what is left where the lowest set bit is cleared: half of it, by the lowest bit
pub cleared-odd : (n : ℕ) → n % 2 ≡ 1 → (bit_and n (n - 1) % 2 ≡ 0) × (bit_and n (n - 1) / 2 ≡ n / 2)
cleared-odd n odd =
    let half : (n - 1) / 2 ≡ n / 2 = omega (arith, odd) in
    let low : min (n % 2) ((n - 1) % 2) ≡ 0 = omega (arith, odd) in
    let is : bit_and n (n - 1) ≡ n / 2 * 2 + 0 = and_step n (n - 1) ∙ ap₂ (λ u v. u * 2 + v) (ap (bit_and (n / 2)) half ∙ and_self (n / 2)) low in
    (omega (arith, is), omega (arith, is))

pub cleared-even : (n : ℕ) → n % 2 ≡ 0 → 0 < n → (bit_and n (n - 1) % 2 ≡ 0) × (bit_and n (n - 1) / 2 ≡ bit_and (n / 2) (n / 2 - 1))
cleared-even n even some =
    let half : (n - 1) / 2 ≡ n / 2 - 1 = omega (arith, even, some) in
    let low : min (n % 2) ((n - 1) % 2) ≡ 0 = omega (arith, even) in
    let is : bit_and n (n - 1) ≡ bit_and (n / 2) (n / 2 - 1) * 2 + 0 = and_step n (n - 1) ∙ ap₂ (λ u v. u * 2 + v) (ap (bit_and (n / 2)) half) low in
    (omega (arith, is), omega (arith, is))

module _ {X : Type 0} (P : X → Type 0) where
  -- no bit stands for more than the list has
  pub Tells-below : (xs : List X) (bits : ℕ) → Tells P xs bits → bits < 2 ^ length xs
  Tells-below [] bits none = omega (arith, none)
  Tells-below (x ∷ xs) bits told = omega (arith, Tells-below xs (bits / 2) told.1, two-pow-succ (length xs))

  -- the bits tell of another property, too, which the elements have as they have this one
  pub Tells-alike : (Q In : X → Type 0) → ((x : X) → In x → P x ↔ Q x) → (xs : List X) (bits : ℕ) → All In xs → Tells P xs bits → Tells Q xs bits
  Tells-alike Q In alike [] bits are none = none
  Tells-alike Q In alike (x ∷ xs) bits are told =
      let here = alike x (All-head In x xs are) in (
        (λ o. here.0 (told.0.0 o), λ h. told.0.1 (here.1 h)),
        Tells-alike Q In alike xs (bits / 2) (All-tail In x xs are) told.1,
      )

  pub Tells-room : (xs : List X) (at k bits : ℕ) → Tells P (drop at xs) bits → k ≤ at → length xs ≤ 64 → bits < 2 ^ (64 - k)
  Tells-room xs at k bits told from few =
      let low = Tells-below (drop at xs) bits told in
      let long = length-drop at xs in
      omega (arith, low, pow_mono {i = length (drop at xs)} {j = 64 - k} (omega (arith, long, from, few)))

  -- the bits of two lists, one behind the other
  pub Tells-joined : (front back : List X) (n a b new : ℕ) → length front ≡ n → Tells P front a → Tells P back b → new ≡ b * 2 ^ n + a →
      Tells P (front ++ back) new
  Tells-joined [] back n a b new long told_front told e =
      let one : 2 ^ n ≡ 1 = ap (λ k. 2 ^ k) (sym long) in
      let same : b ≡ new = sym (e ∙ ap (λ m. b * m + a) one ∙ omega (arith, told_front)) in
      subst (Tells P back) same told
  Tells-joined (x ∷ front) back n a b new long told_front told e =
      let k = length front in
      let twice : b * 2 ^ n ≡ b * 2 ^ k * 2 = ap (λ m. b * 2 ^ m) (sym long) ∙ ap (λ m. b * m) (pow-suc 2 k) ∙ sym (mul_assoc b (2 ^ k) 2) in
      let p = b * 2 ^ k in
      let is : new ≡ p * 2 + a = e ∙ ap (λ m. m + a) twice in
      let digit : new % 2 ≡ a % 2 = omega (arith, is) in (
        (λ o. told_front.0.0 (sym digit ∙ o), λ h. digit ∙ told_front.0.1 h),
        Tells-joined front back k (a / 2) b (new / 2) refl told_front.1 told (omega (arith, is)),
      )

  -- the bits of the first elements
  pub Tells-take : (k : ℕ) (xs : List X) (bits : ℕ) → k ≤ length xs → Tells P xs bits → Tells P (take k xs) (bits % 2 ^ k)
  Tells-take zero xs bits within told = omega arith
  Tells-take (suc k) [] bits within told = absurd (omega (arith, within))
  Tells-take (suc k) (x ∷ xs) bits within told =
      let new = bits % 2 ^ suc k in
      let is : new ≡ (bits / 2 % 2 ^ k) * 2 + bits % 2 = ap (λ m. bits % 2 ^ m) (omega arith) ∙ mod-pow-add bits k 1 in
      let digit : new % 2 ≡ bits % 2 = omega (arith, is) in
      let half : bits / 2 % 2 ^ k ≡ new / 2 = omega (arith, is) in (
        (λ o. told.0.0 (sym digit ∙ o), λ h. digit ∙ told.0.1 h),
        subst (Tells P (take k xs)) half (Tells-take k xs (bits / 2) (omega (arith, within)) told.1),
      )

  -- one element more, in front
  pub Tells-front : (x : X) (xs : List X) (bits : ℕ) (holds : Bool) (bit new : ℕ) → (IsTrue holds ↔ P x) → bit ≡ from_bool holds →
      Tells P xs bits → new ≡ 2 * bits + bit → Tells P (x ∷ xs) new
  Tells-front x xs bits holds bit new is bit_is told e =
      elim (cases_Bool holds) [
        | inl true_is ↦
            let one : bit ≡ 1 = bit_is ∙ ap from_bool true_is in
            let half : bits ≡ new / 2 = omega (arith, e, one) in
            let odd : new % 2 ≡ 1 = omega (arith, e, one) in ((λ o. is.0 true_is, λ p. odd), subst (Tells P xs) half told)
        | inr false_is ↦
            let none : bit ≡ 0 = bit_is ∙ ap from_bool false_is in
            let half : bits ≡ new / 2 = omega (arith, e, none) in
            let even : new % 2 ≡ 0 = omega (arith, e, none) in
            ((λ o. absurd (omega (arith, o, even)), λ p. absurd (iff_false is false_is p)), subst (Tells P xs) half told)
      ]

-- four bits that are shifted, and the others below them
module _ (last four bits : ℕ) (few : last ≤ 60) (small : four < 2 ^ 4) where
  pub shifted : (four * 2 ^ last % 2 ^ 64 ≡ four * 2 ^ last) × (1 * 2 ^ last % 2 ^ 64 ≡ 2 ^ last) × (bits % 2 ^ last + four * 2 ^ last < 2 ^ 64)
  shifted =
      let low : 2 ^ last ≤ 2 ^ 60 = pow_mono {i = last} {j = 60} few in
      let rest : bits % 2 ^ last < 2 ^ last = mod-lt bits (pow_pos last) in
      let high : four * 2 ^ last ≤ 15 * 2 ^ last = mul-le-mul_right (2 ^ last) (omega (arith, small)) in (
        shl_whole four 4 last 64 small (omega (arith, few)),
        shl_whole 1 1 last 64 (omega arith) (omega (arith, few)) ∙ omega arith,
        omega (arith, low, high, rest),
      )

-- the bits of all elements, from those of the first ones and from those of the last four
module _ {X : Type 0} (P : X → Type 0) (xs : List X) (at last bits four : ℕ) (long : last + 4 ≡ length xs) (past : last ≤ at) (within : at ≤ length xs)
    (most : length xs ≤ 64) (told : Tells P (take at xs) bits) (told_last : Tells P (take 4 (drop last xs)) four) where
  abbrev pub together : ℕ
  together = bits % (1 * 2 ^ last % 2 ^ 64) + four * 2 ^ last % 2 ^ 64

  four-long : length (take 4 (drop last xs)) ≡ 4
  four-long = length-take-le 4 (drop last xs) (omega (arith, length-drop last xs, long))

  parts : (four * 2 ^ last % 2 ^ 64 ≡ four * 2 ^ last) × (1 * 2 ^ last % 2 ^ 64 ≡ 2 ^ last) × (bits % 2 ^ last + four * 2 ^ last < 2 ^ 64)
  parts = shifted last four bits (omega (arith, long, most)) (subst (λ n. four < 2 ^ n) four-long (Tells-below P (take 4 (drop last xs)) four told_last))

  together_is : together ≡ bits % 2 ^ last + four * 2 ^ last
  together_is = ap₂ (λ m n. bits % m + n) parts.1 parts.0

  pub Tells-together-fits : together < 2 ^ 64
  Tells-together-fits = subst (λ n. n < 2 ^ 64) (sym together_is) parts.2

  pub Tells-together : Tells P xs together
  Tells-together =
      let front = Tells-take P last (take at xs) bits (omega (arith, past, length-take-le at xs within)) told in
      let front_is : take last (take at xs) ≡ take last xs = take-take last at xs past in
      subst (λ l. Tells P l together) (last-four xs last long)
      (Tells-joined P (take last xs) (take 4 (drop last xs)) last (bits % 2 ^ last) four together (length-take-le last xs (omega (arith, long)))
      (subst (λ l. Tells P l (bits % 2 ^ last)) front_is front) told_last (together_is ∙ omega arith))

-- four more are told behind the first ones
module _ {X : Type 0} (P : X → Type 0) (xs : List X) (at bits four : ℕ) (more : at + 4 ≤ length xs) (most : length xs ≤ 64)
    (told : Tells P (take at xs) bits) (told_four : Tells P (take 4 (drop at xs)) four) where
  at-long : length (take at xs) ≡ at
  at-long = length-take-le at xs (omega (arith, more))

  more-parts : (four * 2 ^ at % 2 ^ 64 ≡ four * 2 ^ at) × (1 * 2 ^ at % 2 ^ 64 ≡ 2 ^ at) × (bits % 2 ^ at + four * 2 ^ at < 2 ^ 64)
  more-parts = shifted at four bits (omega (arith, more, most))
      (subst (λ n. four < 2 ^ n) (length-take-le 4 (drop at xs) (omega (arith, length-drop at xs, more))) (Tells-below P (take 4 (drop at xs)) four told_four))

  bits-small : bits < 2 ^ at
  bits-small = subst (λ n. bits < 2 ^ n) at-long (Tells-below P (take at xs) bits told)

  pub Tells-more-fits : bits + four * 2 ^ at % 2 ^ 64 < 2 ^ 64
  Tells-more-fits =
      let same : bits % 2 ^ at ≡ bits = mod-eq_of_lt bits-small in
      omega (arith, more-parts.0, more-parts.2, same)

  pub Tells-more : Tells P (take (at + 4) xs) (bits + four * 2 ^ at % 2 ^ 64)
  Tells-more =
      subst (λ l. Tells P l (bits + four * 2 ^ at % 2 ^ 64)) (four-behind xs at (at + 4) refl)
      (Tells-joined P (take at xs) (take 4 (drop at xs)) at bits four (bits + four * 2 ^ at % 2 ^ 64) at-long told told_four
      (ap (λ n. bits + n) more-parts.0 ∙ omega arith))

-- four elements more, of which bits tell that stand for others
module _ {X Y : Type 0} (P : X → Type 0) (Q : Y → Type 0) (a b c d : Y) (x y z u : X) (xs : List X) (bits four new : ℕ)
    (told_four : Tells Q (a ∷ b ∷ c ∷ d ∷ []) four) (told : Tells P xs bits) (e : new ≡ 16 * bits + four)
    (first : Q a ↔ P x) (second : Q b ↔ P y) (third : Q c ↔ P z) (fourth : Q d ↔ P u) where
  pub Tells-four : Tells P (x ∷ y ∷ z ∷ u ∷ xs) new
  Tells-four =
      let small : four / 2 / 2 / 2 / 2 ≡ 0 = told_four.1.1.1.1 in
      let p : new % 2 ≡ four % 2 = omega (arith, e) in
      let q : new / 2 % 2 ≡ four / 2 % 2 = omega (arith, e) in
      let r : new / 2 / 2 % 2 ≡ four / 2 / 2 % 2 = omega (arith, e) in
      let s : new / 2 / 2 / 2 % 2 ≡ four / 2 / 2 / 2 % 2 = omega (arith, e) in
      let rest : bits ≡ new / 2 / 2 / 2 / 2 = omega (arith, e, small) in (
        (λ o. first.0 (told_four.0.0 (sym p ∙ o)), λ h. p ∙ told_four.0.1 (first.1 h)),
        (
          (λ o. second.0 (told_four.1.0.0 (sym q ∙ o)), λ h. q ∙ told_four.1.0.1 (second.1 h)),
          (
            (λ o. third.0 (told_four.1.1.0.0 (sym r ∙ o)), λ h. r ∙ told_four.1.1.0.1 (third.1 h)),
            (
              (λ o. fourth.0 (told_four.1.1.1.0.0 (sym s ∙ o)), λ h. s ∙ told_four.1.1.1.0.1 (fourth.1 h)),
              subst (Tells P xs) rest told,
            ),
          ),
        ),
      )
