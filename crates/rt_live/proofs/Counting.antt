-- How many elements of a list pass a test.
use Rattle.std.proofs.Common.{◌≡◌, ℕ, ◌+◌, ◌<◌, ◌≤◌, Bool, true, false, cond, ◌&&◌, ◌||◌, not, List, [], ◌∷◌, length, get_or, take, drop, Contains, arith, refl, ap, sym, ◌∙◌}
use Rattle.std.specs.Prelude.{filter}
use Rattle.std.specs.List.{All, count_by}
use Rattle.std.proofs.lemmas.List.{take-append-drop, drop_more}
use Rattle.std.proofs.lemmas.List.Elements.{All-nil, All-cons}
use Rattle.rt_tree_node.proofs.Counts.{count-cons, count-append}
use Rattle.rt_tree.proofs.Members.{contains-here, contains-later}

module _ {X : Type 0} (p : X → Bool) where
  step-long : (x : X) (xs : List X) (b : Bool) → length (cond b (x ∷ xs) xs) ≡ cond b 1 0 + length xs
  step-long x xs true = omega arith
  step-long x xs false = omega arith

  pub filter-long : (xs : List X) → length (filter p xs) ≡ count_by p xs
  filter-long [] = refl
  filter-long (x ∷ xs) =
      let here : length (filter p (x ∷ xs)) ≡ cond (p x) 1 0 + length (filter p xs) = step-long x (filter p xs) (p x) in
      omega (arith, here, count-cons p x xs, filter-long xs)

  -- an element that passes isn't among those before it
  pub count-more : (xs : List X) (i : ℕ) (x : X) → i < length xs → x ≡ get_or xs i x → p x ≡ true → count_by p (take i xs) < count_by p xs
  count-more xs i x h e passes =
      let split = ap (count_by p) (sym (take-append-drop i xs)) ∙ count-append p (take i xs) (drop i xs) in
      let next = ap (count_by p) (drop_more xs i x h) in
      let here : ◌≡◌ {A = ℕ} (cond (p (get_or xs i x)) 1 0) 1 = ap (λ b. cond b 1 0) (ap p (sym e) ∙ passes) in
      omega (arith, split, next, here, count-cons p (get_or xs i x) (drop (i + 1) xs))

  pub count-whole : (xs : List X) → count_by (λ x. p x && true) xs ≡ count_by p xs
  count-whole [] = refl
  count-whole (x ∷ xs) =
      let here : ◌≡◌ {A = ℕ} (cond (p x && true) 1 0) (cond (p x) 1 0) = and-true (p x) in
      omega (arith, here, count-cons p x xs, count-cons (λ y. p y && true) x xs, count-whole xs)
    where
      and-true : (b : Bool) → ◌≡◌ {A = ℕ} (cond (b && true) 1 0) (cond b 1 0)
      and-true true = refl
      and-true false = refl

  kept-more : (P : X → Type 0) (x : X) (xs : List X) (b : Bool) → (b ≡ true → P x) → All P xs → All P (cond b (x ∷ xs) xs)
  kept-more P x xs true here rest = All-cons P x xs (here refl) rest
  kept-more P x xs false here rest = rest

  -- what holds of each element that passes holds of those that were kept
  pub all-kept : (P : X → Type 0) (xs : List X) → ((x : X) → Contains xs x → p x ≡ true → P x) → All P (filter p xs)
  all-kept P [] each = All-nil P
  all-kept P (x ∷ xs) each =
      kept-more P x (filter p xs) (p x) (λ e. each x (contains-here x xs) e) (all-kept P xs (λ y there passes. each y (contains-later x y xs there) passes))

pub count-all : {X : Type 0} (xs : List X) → count_by (λ x. true) xs ≡ length xs
count-all [] = refl
count-all (x ∷ xs) = omega (arith, count-cons (λ y. true) x xs, count-all xs)

-- as many pass at least
pub count-le : {X : Type 0} (p q : X → Bool) → ((x : X) → ◌≤◌ (cond (p x) 1 0) (cond (q x) 1 0)) → (xs : List X) → count_by p xs ≤ count_by q xs
count-le p q each [] = omega arith
count-le p q each (x ∷ xs) = omega (arith, each x, count-cons p x xs, count-cons q x xs, count-le p q each xs)

pub or-left : (a b : Bool) → ◌≤◌ (cond a 1 0) (cond (a || b) 1 0)
or-left true b = omega arith
or-left false true = omega arith
or-left false false = omega arith

pub or-right : (a b : Bool) → ◌≤◌ (cond b 1 0) (cond (a || b) 1 0)
or-right true true = omega arith
or-right true false = omega arith
or-right false true = omega arith
or-right false false = omega arith

pub either-parts : (a b : Bool) → ◌≡◌ {A = ℕ} (cond (a || b) 1 0) (cond (a && not false) 1 0 + cond (b && not a) 1 0)
either-parts true true = refl
either-parts true false = refl
either-parts false true = refl
either-parts false false = refl

pub absorbed : (a b : Bool) → (b ≡ true → a ≡ true) → (a && b) ≡ b
absorbed true b h = refl
absorbed false true h = h refl
absorbed false false h = refl
