-- Lists in a strict order: sorting gives one, and what is known to come first is its beginning.
use Rattle.std.proofs.Common.{◌≡◌, ◌≢◌, zero, suc, ◌⊎◌, Bool, true, false, cond, List, [], ◌∷◌, length, get_or, take, filter, Contains, arith, refl, ap, sym, ◌∙◌, subst, inl, inr}
use Rattle.std.specs.List.{All}
use Rattle.std.specs.List.Sorted.{IsPermutation}
use Rattle.std.specs.Cmp.{IsTotalOrder}
use Rattle.std.specs.declared.cmp.Ordering.{Ordering}
use Rattle.std.specs.declared.cmp.Ordering.TheVariants.{Less, Equal, Greater}
use Rattle.std.specs.Ordering.{is_gt, ordering_reverse}
use Rattle.std.proofs.lemmas.Bool.{false≢true}
use Rattle.std.proofs.lemmas.Cmp.{tied_itself}
use Rattle.std.proofs.lemmas.List.Elements.{All-nil, All-cons, All-head, All-tail, All-weaker, All-contains, All-filter}
use Rattle.std.proofs.lemmas.List.Sorted.{IsPermutation-refl, IsPermutation-cons, IsPermutation-trans, IsPermutation-middle}
use Rattle.rt_tree_choice.specs.Sorting.{insert_by, sort_by}
use Rattle.rt_tree_choice.proofs.Sorted.{All-sort}

pub contains-cases : {X : Type 0} (x : X) (xs : List X) (y : X) → Contains (x ∷ xs) y → (x ≡ y) ⊎ Contains xs y
contains-cases x xs y (zero, within, e) = inl e
contains-cases x xs y (suc k, within, e) = inr (k, omega arith, e)

contains-later : {X : Type 0} (x : X) (xs : List X) (y : X) → Contains xs y → Contains (x ∷ xs) y
contains-later x xs y (k, within, e) = (suc k, omega arith, e)

flipped : (r s : Ordering) → r ≡ ordering_reverse s → is_gt s ≡ true → r ≡ Less
flipped r Less e h = absurd (false≢true h)
flipped r Equal e h = absurd (false≢true h)
flipped r Greater e h = e

not-after : (r : Ordering) → is_gt r ≡ false → r ≢ Equal → r ≡ Less
not-after Less e n = refl
not-after Equal e n = absurd (n refl)
not-after Greater e n = absurd (false≢true (sym e))

less-equal : Less ≡ Equal → ⊥
less-equal e = cc

insert-all_at : {X : Type 0} (P : X → Type 0) (x y : X) (ys zs : List X) (after : Bool) → P x → All P (y ∷ ys) → All P zs →
    All P (cond after (y ∷ zs) (x ∷ y ∷ ys))
insert-all_at P x y ys zs true here all rest = All-cons P y zs (All-head P y ys all) rest
insert-all_at P x y ys zs false here all rest = All-cons P x (y ∷ ys) here all

insert-all : {X : Type 0} (P : X → Type 0) (compare : X → X → Ordering) (x : X) (ys : List X) → P x → All P ys → All P (insert_by compare x ys)
insert-all P compare x [] here all = All-cons P x [] here all
insert-all P compare x (y ∷ ys) here all =
    insert-all_at P x y ys (insert_by compare x ys) (is_gt (compare x y)) here all (insert-all P compare x ys here (All-tail P y ys all))

insert-permutes_at : {X : Type 0} (x y : X) (ys zs : List X) (after : Bool) → IsPermutation (x ∷ ys) zs →
    IsPermutation (x ∷ y ∷ ys) (cond after (y ∷ zs) (x ∷ y ∷ ys))
insert-permutes_at x y ys zs true moved =
    IsPermutation-trans (x ∷ y ∷ ys) (y ∷ x ∷ ys) (y ∷ zs) (IsPermutation-middle (x ∷ []) y ys) (IsPermutation-cons y (x ∷ ys) zs moved)
insert-permutes_at x y ys zs false moved = IsPermutation-refl (x ∷ y ∷ ys)

insert-permutes : {X : Type 0} (compare : X → X → Ordering) (x : X) (ys : List X) → IsPermutation (x ∷ ys) (insert_by compare x ys)
insert-permutes compare x [] = IsPermutation-refl (x ∷ [])
insert-permutes compare x (y ∷ ys) =
    insert-permutes_at x y ys (insert_by compare x ys) (is_gt (compare x y)) (insert-permutes compare x ys)

pub sort-permutes : {X : Type 0} (compare : X → X → Ordering) (xs : List X) → IsPermutation xs (sort_by compare xs)
sort-permutes compare [] = IsPermutation-refl []
sort-permutes compare (x ∷ xs) =
    IsPermutation-trans (x ∷ xs) (x ∷ sort_by compare xs) (sort_by compare (x ∷ xs))
    (IsPermutation-cons x xs (sort_by compare xs) (sort-permutes compare xs)) (insert-permutes compare x (sort_by compare xs))

module _ {X : Type 0} (R : X → X → Ordering) where
  -- each element comes before all later ones
  abbrev pub Rising : List X → Type 0
  Rising [] = Unit {0}
  Rising (x ∷ xs) = All (λ y. R x y ≡ Less) xs × Rising xs

  -- no element ties with a later one
  abbrev pub Untied : List X → Type 0
  Untied [] = Unit {0}
  Untied (x ∷ xs) = All (λ y. R x y ≢ Equal) xs × Untied xs

  -- no element comes after a later one
  abbrev pub InOrder : List X → Type 0
  InOrder [] = Unit {0}
  InOrder (x ∷ xs) = All (λ y. is_gt (R x y) ≡ false) xs × InOrder xs

module _ {X : Type 0} (R : X → X → Ordering) (o : IsTotalOrder R) where
  not-itself : (x : X) → R x x ≡ Less → ⊥
  not-itself x e = less-equal (sym e ∙ tied_itself o x)

  Rising-insert_at : (x y : X) (ys : List X) → Rising R (y ∷ ys) → All (λ z. R x z ≢ Equal) (y ∷ ys) → Rising R (insert_by R x ys) →
      (after : Bool) → is_gt (R x y) ≡ after → Rising R (cond after (y ∷ insert_by R x ys) (x ∷ y ∷ ys))
  Rising-insert_at x y ys r apart rest true e =
      (insert-all (λ z. R y z ≡ Less) R x ys (flipped (R y x) (R x y) (o.antisymm y x) e) r.0, rest)
  Rising-insert_at x y ys r apart rest false e =
      let first : R x y ≡ Less = not-after (R x y) e (All-head (λ z. R x z ≢ Equal) y ys apart) in
      (All-cons (λ z. R x z ≡ Less) y ys first (All-weaker (λ z. R y z ≡ Less) (λ z. R x z ≡ Less) (λ z h. o.trans x y z first h) ys r.0), r)

  Rising-insert : (x : X) (ys : List X) → Rising R ys → All (λ z. R x z ≢ Equal) ys → Rising R (insert_by R x ys)
  Rising-insert x [] r apart = (All-nil (λ z. R x z ≡ Less), tt)
  Rising-insert x (y ∷ ys) r apart =
      Rising-insert_at x y ys r apart (Rising-insert x ys r.1 (All-tail (λ z. R x z ≢ Equal) y ys apart)) (is_gt (R x y)) refl

  pub Rising-sort : (xs : List X) → Untied R xs → Rising R (sort_by R xs)
  Rising-sort [] apart = tt
  Rising-sort (x ∷ xs) apart =
      Rising-insert x (sort_by R xs) (Rising-sort xs apart.1) (All-sort (λ z. R x z ≢ Equal) R xs apart.0)

  -- what rises within a rising list, and before all else in it, is its beginning
  pub beginning : (front xs : List X) → Rising R front → Rising R xs → All (Contains xs) front →
      ((x : X) → Contains xs x → Contains front x ⊎ All (λ a. R a x ≡ Less) front) → front ≡ take (length front) xs
  beginning [] xs r s within other = refl
  beginning (a ∷ front) [] r s within other = let h = All-head (Contains []) a front within in absurd (omega (arith, h.1))
  beginning (a ∷ front) (x ∷ xs) r s within other =
      let mine : (x ≡ a) ⊎ (R x a ≡ Less) = elim (contains-cases x xs a (All-head (Contains (x ∷ xs)) a front within)) [
        | inl e ↦ inl e
        | inr there ↦ inr (All-contains (λ z. R x z ≡ Less) xs a s.0 there)
      ] in
      let its : (a ≡ x) ⊎ (R a x ≡ Less) = elim (other x (0, omega arith, refl)) [
        | inl there ↦ elim (contains-cases a front x there) [
          | inl e ↦ inl e
          | inr later ↦ inr (All-contains (λ z. R a z ≡ Less) front x r.0 later)
        ]
        | inr all ↦ inr (All-head (λ z. R z x ≡ Less) a front all)
      ] in
      let head : a ≡ x = elim mine [
        | inl e ↦ sym e
        | inr p ↦ elim its [
          | inl e ↦ e
          | inr q ↦ absurd (not-itself a (o.trans a x a q p))
        ]
      ] in
      let within_rest : All (Contains xs) front = λ k d h. elim (contains-cases x xs (get_or front k d) (All-tail (Contains (x ∷ xs)) a front within k d h)) [
        | inl e ↦ absurd (not-itself a (subst (λ z. R a z ≡ Less) (sym e ∙ sym head) (r.0 k d h)))
        | inr there ↦ there
      ] in
      let other_rest : (y : X) → Contains xs y → Contains front y ⊎ All (λ z. R z y ≡ Less) front = λ y h. elim (other y (contains-later x xs y h)) [
        | inl there ↦ elim (contains-cases a front y there) [
          | inl e ↦ absurd (not-itself x (subst (λ z. R x z ≡ Less) (sym e ∙ head) (All-contains (λ z. R x z ≡ Less) xs y s.0 h)))
          | inr later ↦ inl later
        ]
        | inr all ↦ inr (All-tail (λ z. R z y ≡ Less) a front all)
      ] in
      ap (λ z. z ∷ front) head ∙ ap (λ zs. x ∷ zs) (beginning front xs r.1 s.1 within_rest other_rest)

-- ---- filters
Contains-filter_at : {X : Type 0} (p : X → Bool) (y : X) (xs : List X) (x : X) (b : Bool) → p y ≡ b → Contains (y ∷ xs) x → p x ≡ true →
    (Contains xs x → Contains (filter p xs) x) → Contains (cond b (y ∷ filter p xs) (filter p xs)) x
Contains-filter_at p y xs x true f h e later = elim (contains-cases y xs x h) [
  | inl here ↦ (0, omega arith, here)
  | inr there ↦ contains-later y (filter p xs) x (later there)
]
Contains-filter_at p y xs x false f h e later = elim (contains-cases y xs x h) [
  | inl here ↦ absurd (false≢true (sym f ∙ ap p here ∙ e))
  | inr there ↦ later there
]

pub Contains-filter : {X : Type 0} (p : X → Bool) (xs : List X) (x : X) → Contains xs x → p x ≡ true → Contains (filter p xs) x
Contains-filter p [] x h e = absurd (omega (arith, h.1))
Contains-filter p (y ∷ xs) x h e = Contains-filter_at p y xs x (p y) refl h e (λ there. Contains-filter p xs x there e)

Contains-unfilter_at : {X : Type 0} (p : X → Bool) (y : X) (xs : List X) (x : X) (b : Bool) → p y ≡ b → Contains (cond b (y ∷ filter p xs) (filter p xs)) x →
    (Contains (filter p xs) x → Contains xs x × (p x ≡ true)) → Contains (y ∷ xs) x × (p x ≡ true)
Contains-unfilter_at p y xs x true f g later = elim (contains-cases y (filter p xs) x g) [
  | inl here ↦ ((0, omega arith, here), sym (ap p here) ∙ f)
  | inr there ↦ (contains-later y xs x (later there).0, (later there).1)
]
Contains-unfilter_at p y xs x false f g later = (contains-later y xs x (later g).0, (later g).1)

pub Contains-unfilter : {X : Type 0} (p : X → Bool) (xs : List X) (x : X) → Contains (filter p xs) x → Contains xs x × (p x ≡ true)
Contains-unfilter p [] x h = absurd (omega (arith, h.1))
Contains-unfilter p (y ∷ xs) x h = Contains-unfilter_at p y xs x (p y) refl h (Contains-unfilter p xs x)

module _ {X : Type 0} (R : X → X → Ordering) where
  Rising-filter_at : (p : X → Bool) (x : X) (xs : List X) (b : Bool) → Rising R (x ∷ xs) → Rising R (filter p xs) →
      Rising R (cond b (x ∷ filter p xs) (filter p xs))
  Rising-filter_at p x xs true r rest = (All-filter p (λ y. R x y ≡ Less) xs r.0, rest)
  Rising-filter_at p x xs false r rest = rest

  pub Rising-filter : (p : X → Bool) (xs : List X) → Rising R xs → Rising R (filter p xs)
  Rising-filter p [] r = tt
  Rising-filter p (x ∷ xs) r = Rising-filter_at p x xs (p x) r (Rising-filter p xs r.1)

  -- what is in order and has no ties rises
  pub rises : (xs : List X) → InOrder R xs → Untied R xs → Rising R xs
  rises [] up apart = tt
  rises (x ∷ xs) up apart = ((λ k d h. not-after (R x (get_or xs k d)) (up.0 k d h) (apart.0 k d h)), rises xs up.1 apart.1)
