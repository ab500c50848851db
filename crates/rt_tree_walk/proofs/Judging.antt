-- Lists that were mapped, numbered or joined: what holds of all elements, look-ups and counts.
use Rattle.std.proofs.Common.{◌≡◌, ℕ, zero, suc, ◌+◌, Bool, true, false, cond, ℤ, List, [], ◌∷◌, ◌++◌, map, Contains, Some, arith, refl, ap, sym, ◌∙◌, inl, inr}
use Rattle.std.specs.Prelude.{find}
use Rattle.std.specs.List.{All, flat_map, sum_by, count_by, enumerate_from}
use Rattle.std.specs.Ordering.{int_eq}
use Rattle.std.proofs.lemmas.Bool.{cases_Bool}
use Rattle.std.proofs.lemmas.Bool.Decides.{Decides-int_eq}
use Rattle.std.proofs.lemmas.List.Elements.{All-nil, All-cons, All-head, All-tail}
use Rattle.std.proofs.lemmas.List.Sums.{sum_by-cons}
use Rattle.rt_tree_node.proofs.Counts.{count-cons, count-append}
use Rattle.rt_tree_walk.specs.Search.{times}
use Rattle.rt_tree_walk.proofs.Totals.{times-cons}

pub All-mapped : {X Y : Type 0} (P : Y → Type 0) (f : X → Y) (xs : List X) → All (λ x. P (f x)) xs → All P (map f xs)
All-mapped P f [] all = All-nil P
All-mapped P f (x ∷ xs) all = All-cons P (f x) (map f xs) (All-head (λ y. P (f y)) x xs all) (All-mapped P f xs (All-tail (λ y. P (f y)) x xs all))

pub All-counted : {X : Type 0} (P : X → Type 0) (n : ℕ) (xs : List X) → All P xs → All (λ (c : ℕ × X). P c.1) (enumerate_from n xs)
All-counted P n [] all = λ k d h. absurd (omega arith)
All-counted P n (x ∷ xs) all =
    All-cons (λ (c : ℕ × _). P c.1) (n, x) (enumerate_from (n + 1) xs) (All-head P x xs all) (All-counted P (n + 1) xs (All-tail P x xs all))

pub flat-none : {X Y : Type 0} (f : X → List Y) (xs : List X) → All (λ x. f x ≡ []) xs → flat_map f xs ≡ []
flat-none f [] all = refl
flat-none f (x ∷ xs) all =
    ap (λ ys. ys ++ flat_map f xs) (All-head (λ y. f y ≡ []) x xs all) ∙ flat-none f xs (All-tail (λ y. f y ≡ []) x xs all)

-- ---- look-ups in a list that was mapped from keys
module _ {K Y : Type 0} (f : K → Y) (label : Y → ℤ) (key : K) (apart : (x : K) → label (f key) ≡ label (f x) → x ≡ key) where
  pub find-mapped : (ks : List K) → Contains ks key → find (λ y. int_eq (label (f key)) (label y)) (map f ks) ≡ Some (f key)
  find-mapped [] h = absurd (omega (arith, h.1))
  find-mapped (x ∷ xs) h = elim (cases_Bool (int_eq (label (f key)) (label (f x)))) [
    | inl e ↦
        let same : x ≡ key = apart x ((Decides-int_eq (label (f key)) (label (f x))).0 e) in
        ap (λ b. cond b (Some (f x)) (find (λ y. int_eq (label (f key)) (label y)) (map f xs))) e ∙ ap (λ k. Some (f k)) same
    | inr e ↦
        ap (λ b. cond b (Some (f x)) (find (λ y. int_eq (label (f key)) (label y)) (map f xs))) e
        ∙ find-mapped xs (later x xs e h)
  ]
    where
      later : (x : K) (xs : List K) → int_eq (label (f key)) (label (f x)) ≡ false → Contains (x ∷ xs) key → Contains xs key
      later x xs e (zero, h, is) =
          absurd (differ (int_eq (label (f key)) (label (f x))) ((Decides-int_eq (label (f key)) (label (f x))).1 (ap (λ k. label (f k)) (sym is))) e)
        where
          differ : (b : Bool) → b ≡ true → b ≡ false → ⊥
          differ b p q = let r : true ≡ false = sym p ∙ q in cc
      later x xs e (suc k, h, is) = (k, omega arith, is)

-- ---- counts
pub count-flat : {X Y Z : Type 0} (test : Z → Bool) (f : Y → List Z) (g : X → Y) (xs : List X) →
    count_by test (flat_map f (map g xs)) ≡ sum_by (λ x. count_by test (f (g x))) xs
count-flat test f g [] = refl
count-flat test f g (x ∷ xs) =
    omega (arith, count-append test (f (g x)) (flat_map f (map g xs)), count-flat test f g xs, sum_by-cons (λ y. count_by test (f (g y))) x xs)

pub count-mapped : {X Y : Type 0} (test : Y → Bool) (f : X → Y) (other : X → Bool) (xs : List X) → All (λ x. test (f x) ≡ other x) xs →
    count_by test (map f xs) ≡ count_by other xs
count-mapped test f other [] all = refl
count-mapped test f other (x ∷ xs) all =
    let here : ◌≡◌ {A = ℕ} (cond (test (f x)) 1 0) (cond (other x) 1 0) = ap (λ b. cond b 1 0) (All-head (λ y. test (f y) ≡ other y) x xs all) in
    omega (arith, here, count-cons test (f x) (map f xs), count-cons other x xs, count-mapped test f other xs (All-tail (λ y. test (f y) ≡ other y) x xs all))

pub count-joined : {X Y : Type 0} (test : Y → Bool) (f : X → List Y) (xs : List X) → count_by test (flat_map f xs) ≡ sum_by (λ x. count_by test (f x)) xs
count-joined test f [] = refl
count-joined test f (x ∷ xs) =
    omega (arith, count-append test (f x) (flat_map f xs), count-joined test f xs, sum_by-cons (λ y. count_by test (f y)) x xs)

pub sum-times : (p : ℕ) (f : ℕ → ℕ) (ks : List ℕ) → All (λ k. f k ≡ times p (k ∷ [])) ks → sum_by f ks ≡ times p ks
sum-times p f [] all = refl
sum-times p f (k ∷ ks) all =
    omega (arith, sum_by-cons f k ks, times-cons p k ks, All-head (λ j. f j ≡ times p (j ∷ [])) k ks all, sum-times p f ks (All-tail (λ j. f j ≡ times p (j ∷ [])) k ks all))
