-- The cells that a number's bits pick.
use Rattle.std.proofs.Common.{◌≡◌, ℕ, zero, suc, ◌-◌, ◌/◌, ◌%◌, ◌==◌, ◌^◌, ◌<◌, ◌≤◌, cond, List, [], ◌∷◌, All, length, map, get_or, refl, sym, ap, subst, ◌∙◌, arith, inl, inr}
use Rattle.std.proofs.Math.Nat.{two-pow-succ}
use Rattle.std.proofs.lemmas.Bool.{cases_eq}
use Rattle.std.proofs.lemmas.List.{length-map}
use Rattle.std.proofs.lemmas.List.Elements.{All-head, All-tail}
use Rattle.std.proofs.lemmas.Nat.{ones_le_self}
use Rattle.std.specs.Int.Bits.{bit_and}
use lib.Count.{count_trailing_zeros, under, ones, ones_step}
use Rattle.rt_box.specs.declared.interval.Interval.{Interval}
use Rattle.rt_box.proofs.Telling.{cleared-odd, cleared-even, Tells-below}
use Rattle.rt_box.specs.Bits.{Tells}
use Rattle.rt_box.specs.Rect.{IsBox}
use Rattle.rt_box.specs.Window.{Admits, IsReach}
use Rattle.rt_tree_node.specs.declared.cell.Cell.{Cell}
use Rattle.rt_tree_node.specs.Places.{key_of}
use Rattle.rt_tree_walk.specs.Search.{row_of}
use Rattle.rt_tree_walk.specs.Visits.{picked, TakesRows, TakesChildren}
use Rattle.rt_tree_walk.proofs.Taking.{TakesRows-none, TakesRows-front, TakesRows-skips, TakesChildren-none, TakesChildren-front, TakesChildren-skips}

module _ {D : ℕ} where
  abbrev turn : Cell D → List (Cell D) → ℕ → List (Cell D)
  turn c rest digit = cond (digit == 1) (c ∷ rest) rest

  pub picked-odd : (c : Cell D) (cs : List (Cell D)) (bits half : ℕ) → bits % 2 ≡ 1 → bits / 2 ≡ half → picked (c ∷ cs) bits ≡ c ∷ picked cs half
  picked-odd c cs bits half odd e = ap (turn c (picked cs (bits / 2))) odd ∙ ap (λ n. c ∷ picked cs n) e

  pub picked-even : (c : Cell D) (cs : List (Cell D)) (bits half : ℕ) → bits % 2 ≡ 0 → bits / 2 ≡ half → picked (c ∷ cs) bits ≡ picked cs half
  picked-even c cs bits half even e = ap (turn c (picked cs (bits / 2))) even ∙ ap (picked cs) e

  -- where no bit is set, no cell is picked
  pub picked-none : (cells : List (Cell D)) → picked cells 0 ≡ []
  picked-none [] = refl
  picked-none (c ∷ cs) = picked-none cs

  -- the first cell picked stands where the lowest bit does that is set
  pub record IsFirst (cells : List (Cell D)) (bits at : ℕ) : Type 0 where
    pub within : at < length cells
    pub is : (d : Cell D) → picked cells bits ≡ get_or cells at d ∷ picked cells (bit_and bits (bits - 1))

  first-odd : (c : Cell D) (cs : List (Cell D)) (bits : ℕ) → bits % 2 ≡ 1 → IsFirst (c ∷ cs) bits 0
  first-odd c cs bits odd =
      let after = cleared-odd bits odd in record {
        within = omega arith;
        is = λ d. picked-odd c cs bits (bits / 2) odd refl ∙ ap (λ l. c ∷ l) (sym (picked-even c cs (bit_and bits (bits - 1)) (bits / 2) after.0 after.1));
      }

  first-even : (c : Cell D) (cs : List (Cell D)) (bits at : ℕ) → bits % 2 ≡ 0 → 0 < bits → IsFirst cs (bits / 2) at → IsFirst (c ∷ cs) bits (suc at)
  first-even c cs bits at even some first =
      let after = cleared-even bits even some in record {
        within = let h = first.within in omega (arith, h);
        is = λ d. picked-even c cs bits (bits / 2) even refl ∙ first.is d
            ∙ ap (λ l. get_or cs at d ∷ l) (sym (picked-even c cs (bit_and bits (bits - 1)) (bit_and (bits / 2) (bits / 2 - 1)) after.0 after.1));
      }

  pub picked-first : (k : ℕ) (cells : List (Cell D)) (bits : ℕ) → length cells ≤ k → 0 < bits → bits < 2 ^ length cells →
      IsFirst cells bits (count_trailing_zeros k bits)
  unfolding count_trailing_zeros
  picked-first k [] bits few some below = absurd (omega (arith, some, below))
  picked-first zero (c ∷ cs) bits few some below = absurd (omega (arith, few))
  picked-first (suc k) (c ∷ cs) bits few some below =
      elim (cases_eq (bits % 2) 1) [
        | inl odd ↦ subst (IsFirst (c ∷ cs) bits) (sym (ap (λ digit. under digit (count_trailing_zeros k (bits / 2))) odd)) (first-odd c cs bits odd)
        | inr ne ↦
            let even : bits % 2 ≡ 0 = omega (arith, ne) in
            let rest : bits / 2 < 2 ^ length cs = omega (arith, below, two-pow-succ (length cs)) in
            subst (IsFirst (c ∷ cs) bits) (sym (ap (λ digit. under digit (count_trailing_zeros k (bits / 2))) even))
            (first-even c cs bits (count_trailing_zeros k (bits / 2)) even some (picked-first k cs (bits / 2) (omega (arith, few)) (omega (arith, some, even)) rest))
      ]

  -- as many cells are picked as bits are set
  pub length-picked : (cells : List (Cell D)) (bits : ℕ) → bits < 2 ^ length cells → length (picked cells bits) ≡ ones bits
  length-picked [] bits below = let none : bits ≡ 0 = omega (arith, below) in sym (ap ones none ∙ omega (arith, ones_le_self 0))
  length-picked (c ∷ cs) bits below =
      let rest = length-picked cs (bits / 2) (omega (arith, below, two-pow-succ (length cs))) in
      elim (cases_eq (bits % 2) 1) [
        | inl odd ↦ omega (arith, ap length (picked-odd c cs bits (bits / 2) odd refl), rest, ones_step bits, odd)
        | inr ne ↦
            let even : bits % 2 ≡ 0 = omega (arith, ne) in
            omega (arith, ap length (picked-even c cs bits (bits / 2) even refl), rest, ones_step bits, even)
      ]

  -- bits that tell of all boxes pick no more cells than there are
  pub Tells-cells : (P : List Interval → Type 0) (boxes : List (List Interval)) (cells : List (Cell D)) (bits : ℕ) → boxes ≡ map (λ c. c.rect) cells →
      Tells P boxes bits → Tells P (map (λ c. c.rect) cells) bits × (bits < 2 ^ length cells)
  Tells-cells P boxes cells bits is told =
      let low : bits < 2 ^ length boxes = Tells-below P boxes bits told in
      let long : length boxes ≡ length cells = ap length is ∙ length-map cells (λ c. c.rect) in
      (subst (λ bs. Tells P bs bits) is told, subst (λ n. bits < 2 ^ n) long low)

  -- where the bits tell which boxes a window admits, the cells picked give the rows
  pub TakesRows-picked : (window : List Interval) (cells : List (Cell D)) (bits : ℕ) → Tells (Admits window) (map (λ c. c.rect) cells) bits →
      TakesRows window cells [] (map row_of (picked cells bits))
  TakesRows-picked window [] bits told = TakesRows-none window []
  TakesRows-picked window (c ∷ cs) bits told =
      let rest = TakesRows-picked window cs (bits / 2) told.1 in
      elim (cases_eq (bits % 2) 1) [
        | inl odd ↦ subst (λ l. TakesRows window (c ∷ cs) [] (map row_of l)) (sym (picked-odd c cs bits (bits / 2) odd refl))
            (TakesRows-front window cs c (map row_of (picked cs (bits / 2))) rest (told.0.0 odd))
        | inr ne ↦ subst (λ l. TakesRows window (c ∷ cs) [] (map row_of l)) (sym (picked-even c cs bits (bits / 2) (omega (arith, ne)) refl))
            (TakesRows-skips window cs c (map row_of (picked cs (bits / 2))) rest (λ admits. ne (told.0.1 admits)))
      ]

  -- where they tell which boxes its reach admits, the cells picked give the children
  pub TakesChildren-picked : (window reach : List Interval) (cells : List (Cell D)) (bits : ℕ) → IsReach D window reach →
      All (IsBox D) (map (λ c. c.rect) cells) → Tells (Admits reach) (map (λ c. c.rect) cells) bits →
      TakesChildren window cells [] (map key_of (picked cells bits))
  TakesChildren-picked window reach [] bits reaches boxes told = TakesChildren-none window []
  TakesChildren-picked window reach (c ∷ cs) bits reaches boxes told =
      let rest = TakesChildren-picked window reach cs (bits / 2) reaches (All-tail (IsBox D) c.rect (map (λ x. x.rect) cs) boxes) told.1 in
      let may = reaches c.rect (All-head (IsBox D) c.rect (map (λ x. x.rect) cs) boxes) in
      elim (cases_eq (bits % 2) 1) [
        | inl odd ↦ subst (λ l. TakesChildren window (c ∷ cs) [] (map key_of l)) (sym (picked-odd c cs bits (bits / 2) odd refl))
            (TakesChildren-front window cs c (map key_of (picked cs (bits / 2))) rest (may.0 (told.0.0 odd)))
        | inr ne ↦ subst (λ l. TakesChildren window (c ∷ cs) [] (map key_of l)) (sym (picked-even c cs bits (bits / 2) (omega (arith, ne)) refl))
            (TakesChildren-skips window cs c (map key_of (picked cs (bits / 2))) rest (λ holds. ne (told.0.1 (may.1 holds))))
      ]
