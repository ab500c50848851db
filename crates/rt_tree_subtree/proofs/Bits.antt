-- Bits that tell of a list's elements, of which the first ones are cleared.
use Rattle.std.proofs.Common.{◌≡◌, ℕ, zero, suc, ◌+◌, ◌-◌, ◌/◌, ◌%◌, ◌<◌, ◌≤◌, List, [], ◌∷◌, length, get_or, arith, ap, sym, subst, inl, inr}
use Rattle.std.proofs.lemmas.Bool.{cases_eq}
use Rattle.std.specs.Int.Bits.{bit_and}
use lib.Count.{count_trailing_zeros, under}
use Rattle.rt_box.specs.Bits.{Tells}
use Rattle.rt_box.proofs.Telling.{cleared-odd, cleared-even}

module _ {X : Type 0} (P : X → Type 0) where
  -- the bits of the first n elements are clear, and the others tell
  abbrev pub TellsFrom : ℕ → List X → ℕ → Type 0
  TellsFrom zero xs bits = Tells P xs bits
  TellsFrom (suc n) [] bits = bits ≡ 0
  TellsFrom (suc n) (x ∷ xs) bits = (bits % 2 ≡ 0) × TellsFrom n xs (bits / 2)

  -- the next element that has the property, from the one at n on; its bit is cleared then
  pub record IsNext (n : ℕ) (xs : List X) (bits at : ℕ) : Type 0 where
    pub from : n ≤ at
    pub within : at < length xs
    pub has : (d : X) → P (get_or xs at d)
    pub others : (k : ℕ) (d : X) → n ≤ k → k < at → ¬ P (get_or xs k d)
    pub rest : TellsFrom (suc at) xs (bit_and bits (bits - 1))

  next-here : (x : X) (xs : List X) (bits : ℕ) → bits % 2 ≡ 1 → Tells P (x ∷ xs) bits → IsNext 0 (x ∷ xs) bits 0
  next-here x xs bits odd told =
      let after = cleared-odd bits odd in record {
        from = omega arith;
        within = omega arith;
        has = λ d. told.0.0 odd;
        others = λ k d above below. absurd (omega (arith, below));
        rest = (after.0, subst (Tells P xs) (sym after.1) told.1);
      }

  later-others : (n m : ℕ) (x : X) (xs : List X) (bits at : ℕ) → (n ≡ 0 → ¬ P x) → ((k : ℕ) → n ≤ suc k → m ≤ k) → IsNext m xs bits at →
      (k : ℕ) (d : X) → n ≤ k → k < suc at → ¬ P (get_or (x ∷ xs) k d)
  later-others n m x xs bits at not_first down later zero d above below = not_first (omega (arith, above))
  later-others n m x xs bits at not_first down later (suc k) d above below = later.others k d (down k above) (omega (arith, below))

  next-later : (n m : ℕ) (x : X) (xs : List X) (bits at : ℕ) → bits % 2 ≡ 0 → 0 < bits → (n ≡ 0 → ¬ P x) → n ≤ m + 1 → ((k : ℕ) → n ≤ suc k → m ≤ k) →
      IsNext m xs (bits / 2) at → IsNext n (x ∷ xs) bits (suc at)
  next-later n m x xs bits at even some not_first up down later =
      let cleared = cleared-even bits even some in record {
        from = omega (arith, later.from, up);
        within = let h = later.within in omega (arith, h);
        has = λ d. later.has d;
        others = later-others n m x xs (bits / 2) at not_first down later;
        rest = (cleared.0, subst (TellsFrom (suc at) xs) (sym cleared.1) later.rest);
      }

  pub next-is : (k n : ℕ) (xs : List X) (bits : ℕ) → length xs ≤ k → 0 < bits → TellsFrom n xs bits → IsNext n xs bits (count_trailing_zeros k bits)
  unfolding count_trailing_zeros
  next-is k zero [] bits few some told = absurd (omega (arith, some, told))
  next-is k (suc n) [] bits few some told = absurd (omega (arith, some, told))
  next-is zero n (x ∷ xs) bits few some told = absurd (omega (arith, few))
  next-is (suc k) zero (x ∷ xs) bits few some told =
      elim (cases_eq (bits % 2) 1) [
        | inl odd ↦ subst (IsNext 0 (x ∷ xs) bits) (sym (ap (λ digit. under digit (count_trailing_zeros k (bits / 2))) odd)) (next-here x xs bits odd told)
        | inr ne ↦
            let even : bits % 2 ≡ 0 = omega (arith, ne) in
            subst (IsNext 0 (x ∷ xs) bits) (sym (ap (λ digit. under digit (count_trailing_zeros k (bits / 2))) even))
            (next-later 0 0 x xs bits (count_trailing_zeros k (bits / 2)) even some (λ zero_is p. ne (told.0.1 p)) (omega arith) (λ j above. omega arith)
            (next-is k 0 xs (bits / 2) (omega (arith, few)) (omega (arith, some, even)) told.1))
      ]
  next-is (suc k) (suc n) (x ∷ xs) bits few some told =
      let even : bits % 2 ≡ 0 = told.0 in
      subst (IsNext (suc n) (x ∷ xs) bits) (sym (ap (λ digit. under digit (count_trailing_zeros k (bits / 2))) even))
      (next-later (suc n) n x xs bits (count_trailing_zeros k (bits / 2)) even some (λ zero_is p. absurd (omega (arith, zero_is))) (omega arith) (λ j above. omega (arith, above))
      (next-is k n xs (bits / 2) (omega (arith, few)) (omega (arith, some, even)) told.1))

  -- where no bit is set, none of the others has the property
  pub none-left : (n : ℕ) (xs : List X) (bits : ℕ) → bits ≡ 0 → TellsFrom n xs bits → (k : ℕ) (d : X) → n ≤ k → k < length xs → ¬ P (get_or xs k d)
  none-left zero [] bits none told k d above below p = omega (arith, below)
  none-left (suc n) [] bits none told k d above below p = omega (arith, below)
  none-left zero (x ∷ xs) bits none told zero d above below p = omega (arith, none, told.0.1 p)
  none-left zero (x ∷ xs) bits none told (suc k) d above below p =
      none-left zero xs (bits / 2) (omega (arith, none)) told.1 k d (omega arith) (omega (arith, below)) p
  none-left (suc n) (x ∷ xs) bits none told zero d above below p = omega (arith, above)
  none-left (suc n) (x ∷ xs) bits none told (suc k) d above below p =
      none-left n xs (bits / 2) (omega (arith, none)) told.1 k d (omega (arith, above)) (omega (arith, below)) p
