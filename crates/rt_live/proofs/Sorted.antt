-- Lists by rising key: each is what it holds at each key, so two that hold the same are the same list.
use Rattle.std.proofs.Common.{◌≡◌, zero, suc, ℤ, Bool, true, false, cond, not, List, [], ◌∷◌, ◌++◌, Option, Some, None, inl, inr, refl, sym, ap, subst, ◌∙◌, arith}
use Rattle.std.specs.Prelude.{◌<ℤ◌, int_lt, find, filter, AllPairs}
use Rattle.std.specs.List.{AllByRecursion}
use Rattle.std.specs.Option.{option_or}
use Rattle.std.specs.Ordering.{int_eq}
use Rattle.std.proofs.lemmas.List.Elements.{recursion_from_All, All-from_recursion, All-weaker, filter_passes}
use Rattle.std.proofs.lemmas.List.Folds.{find-append}
use Rattle.std.proofs.lemmas.List.Kept.{AllPairs-cons, AllPairs-filter}
use Rattle.rt_live.proofs.Order.{lt_true, lt_above, lt_same, lt_from, three_ways, eq_same, eq_below, eq_above, eq_from, lt_trans}

-- the value, where the test passes
abbrev pub kept : {X : Type 0} → (X → Bool) → Option X → Option X
kept p None = None
kept p (Some x) = cond (p x) (Some x) None

module _ {X : Type 0} (key : X → ℤ) where
  abbrev pub at_key : List X → ℤ → Option X
  at_key xs q = find (λ x. int_eq q (key x)) xs

  abbrev pub IsRising : List X → Type 0
  IsRising xs = AllPairs (λ x y. key x <ℤ key y) xs

  abbrev pub Rises : List X → Type 0
  Rises [] = Unit {0}
  Rises (x ∷ xs) = AllByRecursion (λ y. key x <ℤ key y) xs × Rises xs

  abbrev pub placed : List X → X → List X
  placed xs x = filter (λ y. int_lt (key y) (key x)) xs ++ x ∷ filter (λ y. int_lt (key x) (key y)) xs

  abbrev pub taken : List X → ℤ → List X
  taken xs q = filter (λ x. not (int_eq q (key x))) xs

  rising-tail : (x : X) (xs : List X) → IsRising (x ∷ xs) → IsRising xs
  rising-tail x xs rise = λ i j d lt within. rise (suc i) (suc j) d (omega arith) (omega arith)

  pub rises : (xs : List X) → IsRising xs → Rises xs
  rises [] rise = tt
  rises (x ∷ xs) rise = (recursion_from_All (λ y. key x <ℤ key y) xs (λ k d lt. rise zero (suc k) d (omega arith) (omega arith)), rises xs (rising-tail x xs rise))

  pub rising : (xs : List X) → Rises xs → IsRising xs
  rising [] rise = λ i j d lt within. absurd (omega arith)
  rising (x ∷ xs) rise = AllPairs-cons (λ y z. key y <ℤ key z) x xs (All-from_recursion (λ y. key x <ℤ key y) xs rise.0) (rising xs rise.1)

  -- ---- what is at a key

  -- nothing below the first key
  pub none_below : (xs : List X) (q : ℤ) → AllByRecursion (λ y. q <ℤ key y) xs → at_key xs q ≡ None
  none_below [] q below = refl
  none_below (x ∷ xs) q below = rw (eq_below q (key x) below.0) (none_below xs q below.1)

  below_all : (xs : List X) (p q : ℤ) → p <ℤ q → AllByRecursion (λ y. q <ℤ key y) xs → AllByRecursion (λ y. p <ℤ key y) xs
  below_all [] p q h below = tt
  below_all (x ∷ xs) p q h below = (lt_trans p q (key x) h below.0, below_all xs p q h below.1)

  -- at the first key stands the first, and at the others what stood there
  at_head : (x : X) (xs : List X) (q : ℤ) → q ≡ key x → at_key (x ∷ xs) q ≡ Some x
  at_head x xs q same = rw (same, eq_same (key x))

  at_other : (x : X) (xs : List X) (q : ℤ) → int_eq q (key x) ≡ false → at_key (x ∷ xs) q ≡ at_key xs q
  at_other x xs q other = rw other

  -- the same at each key, so the same list
  same_tails : (x y : X) (xs ys : List X) → Rises (x ∷ xs) → Rises (y ∷ ys) → key x ≡ key y → ((q : ℤ) → at_key (x ∷ xs) q ≡ at_key (y ∷ ys) q) → (q : ℤ) → at_key xs q ≡ at_key ys q
  same_tails x y xs ys xrise yrise same at q =
      elim (three_ways q (key x)) as (λ w. at_key xs q ≡ at_key ys q) [
        | inl below ↦ none_below xs q (below_all xs q (key x) below xrise.0) ∙ sym (none_below ys q (below_all ys q (key y) (subst (λ (z : ℤ). q <ℤ z) same below) yrise.0))
        | inr (inl here) ↦ none_below xs q (subst (λ (z : ℤ). AllByRecursion (λ v. z <ℤ key v) xs) (sym here) xrise.0)
            ∙ sym (none_below ys q (subst (λ (z : ℤ). AllByRecursion (λ v. z <ℤ key v) ys) (sym same ∙ sym here) yrise.0))
        | inr (inr above) ↦
            let other : int_eq q (key x) ≡ false = eq_above q (key x) above in
            let other_too : int_eq q (key y) ≡ false = subst (λ (z : ℤ). int_eq q z ≡ false) same other in
            sym (at_other x xs q other) ∙ at q ∙ at_other y ys q other_too
      ]

  -- where the first key of the one list is below that of the other, they differ there
  first_differs : (x y : X) (xs ys : List X) → Rises (y ∷ ys) → key x <ℤ key y → at_key (x ∷ xs) (key x) ≡ at_key (y ∷ ys) (key x) → ⊥
  first_differs x y xs ys rise below same =
      let e : Some x ≡ None = sym (at_head x xs (key x) refl) ∙ same ∙ none_below (y ∷ ys) (key x) (below, below_all ys (key x) (key y) below rise.0) in
      cc

  pub same_lists : (xs ys : List X) → Rises xs → Rises ys → ((q : ℤ) → at_key xs q ≡ at_key ys q) → xs ≡ ys
  same_lists [] [] xrise yrise at = refl
  same_lists [] (y ∷ ys) xrise yrise at = let e : None ≡ Some y = at (key y) ∙ at_head y ys (key y) refl in cc
  same_lists (x ∷ xs) [] xrise yrise at = let e : None ≡ Some x = sym (at (key x)) ∙ at_head x xs (key x) refl in cc
  same_lists (x ∷ xs) (y ∷ ys) xrise yrise at =
      elim (three_ways (key x) (key y)) as (λ w. x ∷ xs ≡ y ∷ ys) [
        | inl below ↦ absurd (first_differs x y xs ys yrise below (at (key x)))
        | inr (inl here) ↦
            let e : Some x ≡ Some y = sym (at_head x xs (key x) refl) ∙ at (key x) ∙ at_head y ys (key x) here in
            let first : x ≡ y = cc in
            let rest : xs ≡ ys = same_lists xs ys xrise.1 yrise.1 (same_tails x y xs ys xrise yrise here at) in
            cc
        | inr (inr above) ↦ absurd (first_differs y x ys xs xrise above (sym (at (key y))))
      ]

  -- ---- what an edit leaves at a key

  sifted_at : (p : ℤ → Bool) (x : X) (xs : List X) → at_key (filter (λ y. p (key y)) xs) (key x) ≡ cond (p (key x)) (at_key xs (key x)) None → (c : Bool) → p (key x) ≡ c →
      at_key (cond c (x ∷ filter (λ y. p (key y)) xs) (filter (λ y. p (key y)) xs)) (key x) ≡ cond c (at_key (x ∷ xs) (key x)) None
  sifted_at p x xs later true is = at_head x (filter (λ y. p (key y)) xs) (key x) refl ∙ sym (at_head x xs (key x) refl)
  sifted_at p x xs later false is = later ∙ ap (λ (b : Bool). cond b (at_key xs (key x)) None) is

  sifted_past : (p : ℤ → Bool) (x : X) (xs : List X) (q : ℤ) → int_eq q (key x) ≡ false → at_key (filter (λ y. p (key y)) xs) q ≡ cond (p q) (at_key xs q) None → (c : Bool) →
      at_key (cond c (x ∷ filter (λ y. p (key y)) xs) (filter (λ y. p (key y)) xs)) q ≡ cond (p q) (at_key (x ∷ xs) q) None
  sifted_past p x xs q other later true =
      at_other x (filter (λ y. p (key y)) xs) q other ∙ later ∙ ap (λ (o : Option X). cond (p q) o None) (sym (at_other x xs q other))
  sifted_past p x xs q other later false = later ∙ ap (λ (o : Option X). cond (p q) o None) (sym (at_other x xs q other))

  sifted_here : (p : ℤ → Bool) (x : X) (xs : List X) (q : ℤ) → ((r : ℤ) → at_key (filter (λ y. p (key y)) xs) r ≡ cond (p r) (at_key xs r) None) → (b : Bool) → int_eq q (key x) ≡ b →
      at_key (filter (λ y. p (key y)) (x ∷ xs)) q ≡ cond (p q) (at_key (x ∷ xs) q) None
  sifted_here p x xs q later true same =
      subst (λ (z : ℤ). at_key (filter (λ y. p (key y)) (x ∷ xs)) z ≡ cond (p z) (at_key (x ∷ xs) z) None) (sym (eq_from q (key x) same))
      (sifted_at p x xs (later (key x)) (p (key x)) refl)
  sifted_here p x xs q later false other = sifted_past p x xs q other (later q) (p (key x))

  either_way : (b : Bool) (o : Option X) → o ≡ cond b o o
  either_way true o = refl
  either_way false o = refl

  -- of a list that is sifted by its keys
  pub at_key-sifted : (p : ℤ → Bool) (xs : List X) (q : ℤ) → at_key (filter (λ x. p (key x)) xs) q ≡ cond (p q) (at_key xs q) None
  at_key-sifted p [] q = either_way (p q) None
  at_key-sifted p (x ∷ xs) q = sifted_here p x xs q (at_key-sifted p xs) (int_eq q (key x)) refl

  pub at_key-taken : (xs : List X) (k q : ℤ) → at_key (taken xs k) q ≡ cond (not (int_eq k q)) (at_key xs q) None
  at_key-taken xs k q = at_key-sifted (λ z. not (int_eq k z)) xs q

  or_none : (o : Option X) → option_or o None ≡ o
  or_none None = refl
  or_none (Some x) = refl

  pub at_key-placed : (xs : List X) (x : X) (q : ℤ) → at_key (placed xs x) q ≡ cond (int_eq q (key x)) (Some x) (at_key xs q)
  at_key-placed xs x q =
      let below : at_key (filter (λ y. int_lt (key y) (key x)) xs) q ≡ cond (int_lt q (key x)) (at_key xs q) None = at_key-sifted (λ z. int_lt z (key x)) xs q in
      let above : at_key (filter (λ y. int_lt (key x) (key y)) xs) q ≡ cond (int_lt (key x) q) (at_key xs q) None = at_key-sifted (λ z. int_lt (key x) z) xs q in
      let parts : at_key (placed xs x) q ≡ option_or (cond (int_lt q (key x)) (at_key xs q) None) (cond (int_eq q (key x)) (Some x) (cond (int_lt (key x) q) (at_key xs q) None))
      = rw (find-append, below, above) in
      parts ∙ elim (three_ways q (key x)) as (λ w. option_or (cond (int_lt q (key x)) (at_key xs q) None) (cond (int_eq q (key x)) (Some x) (cond (int_lt (key x) q) (at_key xs q) None)) ≡ cond (int_eq q (key x)) (Some x) (at_key xs q)) [
        | inl lower ↦ rw (lt_true q (key x) lower, lt_above (key x) q lower) (or_none (at_key xs q))
        | inr (inl same) ↦ rw (same, lt_same (key x))
        | inr (inr higher) ↦ rw (lt_above q (key x) higher, lt_true (key x) q higher)
      ]

  -- of rising lists, one that is sifted by any test
  kept_at : (p : X → Bool) (x : X) (xs : List X) → AllByRecursion (λ y. key x <ℤ key y) xs → at_key (filter p xs) (key x) ≡ kept p (at_key xs (key x)) → (c : Bool) → p x ≡ c →
      at_key (cond c (x ∷ filter p xs) (filter p xs)) (key x) ≡ kept p (at_key (x ∷ xs) (key x))
  kept_at p x xs above later true is = at_head x (filter p xs) (key x) refl ∙ sym (ap (kept p) (at_head x xs (key x) refl) ∙ ap (λ (b : Bool). cond b (Some x) None) is)
  kept_at p x xs above later false is = later ∙ ap (kept p) (none_below xs (key x) above) ∙ sym (ap (kept p) (at_head x xs (key x) refl) ∙ ap (λ (b : Bool). cond b (Some x) None) is)

  kept_past : (p : X → Bool) (x : X) (xs : List X) (q : ℤ) → int_eq q (key x) ≡ false → at_key (filter p xs) q ≡ kept p (at_key xs q) → (c : Bool) →
      at_key (cond c (x ∷ filter p xs) (filter p xs)) q ≡ kept p (at_key (x ∷ xs) q)
  kept_past p x xs q other later true = at_other x (filter p xs) q other ∙ later ∙ ap (kept p) (sym (at_other x xs q other))
  kept_past p x xs q other later false = later ∙ ap (kept p) (sym (at_other x xs q other))

  kept_here : (p : X → Bool) (x : X) (xs : List X) (q : ℤ) → AllByRecursion (λ y. key x <ℤ key y) xs → ((r : ℤ) → at_key (filter p xs) r ≡ kept p (at_key xs r)) → (b : Bool) → int_eq q (key x) ≡ b →
      at_key (filter p (x ∷ xs)) q ≡ kept p (at_key (x ∷ xs) q)
  kept_here p x xs q above later true same =
      subst (λ (z : ℤ). at_key (filter p (x ∷ xs)) z ≡ kept p (at_key (x ∷ xs) z)) (sym (eq_from q (key x) same)) (kept_at p x xs above (later (key x)) (p x) refl)
  kept_here p x xs q above later false other = kept_past p x xs q other (later q) (p x)

  pub at_key-filter : (p : X → Bool) (xs : List X) → Rises xs → (q : ℤ) → at_key (filter p xs) q ≡ kept p (at_key xs q)
  at_key-filter p [] rise q = refl
  at_key-filter p (x ∷ xs) rise q = kept_here p x xs q rise.0 (at_key-filter p xs rise.1) (int_eq q (key x)) refl

  -- ---- what still rises

  pub rises-filter : (p : X → Bool) (xs : List X) → Rises xs → Rises (filter p xs)
  rises-filter p xs rise = rises (filter p xs) (AllPairs-filter (λ x y. key x <ℤ key y) p xs (rising xs rise))

  all_append : (xs ys : List X) (q : ℤ) → AllByRecursion (λ y. q <ℤ key y) xs → AllByRecursion (λ y. q <ℤ key y) ys → AllByRecursion (λ y. q <ℤ key y) (xs ++ ys)
  all_append [] ys q above more = more
  all_append (x ∷ xs) ys q above more = (above.0, all_append xs ys q above.1 more)

  -- what is below a key, the key, and what is above it
  rising_around : (xs ys : List X) (x : X) → Rises xs → AllByRecursion (λ y. key y <ℤ key x) xs → AllByRecursion (λ y. key x <ℤ key y) ys → Rises ys → Rises (xs ++ x ∷ ys)
  rising_around [] ys x below_rise below above above_rise = (above, above_rise)
  rising_around (y ∷ xs) ys x below_rise below above above_rise =
      (all_append xs (x ∷ ys) (key y) below_rise.0 (below.0, below_all ys (key y) (key x) below.0 above), rising_around xs ys x below_rise.1 below.1 above above_rise)

  all_below : (xs : List X) (q : ℤ) → AllByRecursion (λ y. key y <ℤ q) (filter (λ y. int_lt (key y) q) xs)
  all_below xs q = recursion_from_All (λ y. key y <ℤ q) (filter (λ y. int_lt (key y) q) xs)
      (All-weaker (λ y. int_lt (key y) q ≡ true) (λ y. key y <ℤ q) (λ y is. lt_from (key y) q is) (filter (λ y. int_lt (key y) q) xs) (filter_passes (λ y. int_lt (key y) q) xs))

  all_above : (xs : List X) (q : ℤ) → AllByRecursion (λ y. q <ℤ key y) (filter (λ y. int_lt q (key y)) xs)
  all_above xs q = recursion_from_All (λ y. q <ℤ key y) (filter (λ y. int_lt q (key y)) xs)
      (All-weaker (λ y. int_lt q (key y) ≡ true) (λ y. q <ℤ key y) (λ y is. lt_from q (key y) is) (filter (λ y. int_lt q (key y)) xs) (filter_passes (λ y. int_lt q (key y)) xs))

  pub rises-placed : (xs : List X) (x : X) → Rises xs → Rises (placed xs x)
  rises-placed xs x rise =
      rising_around (filter (λ y. int_lt (key y) (key x)) xs) (filter (λ y. int_lt (key x) (key y)) xs) x
      (rises-filter (λ y. int_lt (key y) (key x)) xs rise) (all_below xs (key x)) (all_above xs (key x)) (rises-filter (λ y. int_lt (key x) (key y)) xs rise)

  pub rises-taken : (xs : List X) (q : ℤ) → Rises xs → Rises (taken xs q)
  rises-taken xs q rise = rises-filter (λ x. not (int_eq q (key x))) xs rise
