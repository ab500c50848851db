-- What a test leaves of rows by rising key, where only a row of one key may pass.
use Rattle.std.proofs.Common.{◌≡◌, ℤ, Bool, true, false, ◌||◌, cond, List, [], ◌∷◌, map, None, Some, refl, sym, ap, subst, ◌∙◌}
use Rattle.std.specs.Prelude.{filter}
use Rattle.std.specs.List.{list_any}
use Rattle.std.specs.Ordering.{int_eq}
use Rattle.rt_table_store.proofs.Order.{eq_same, eq_from}
use Rattle.rt_table_store.proofs.Sorted.{at_key, Rises, none_below}

module _ {X : Type 0} (key : X → ℤ) (p : X → Bool) (q : ℤ) (fixed : (x : X) → p x ≡ true → key x ≡ q) where
  -- a row of another key fails
  fails : (x : X) → int_eq q (key x) ≡ false → (c : Bool) → p x ≡ c → p x ≡ false
  fails x other true is =
      let e : true ≡ false = sym (ap (int_eq q) (fixed x is) ∙ eq_same q) ∙ other in
      absurd (let none : ⊥ = cc in none)
  fails x other false is = is

  -- what the test leaves, by whether it passes the first
  first_left : (x : X) (xs : List X) (c : Bool) → p x ≡ c → filter p (x ∷ xs) ≡ cond c (x ∷ filter p xs) (filter p xs)
  first_left x xs c is = rw is

  none_in : (x : X) (xs : List X) → (at_key key xs q ≡ None → filter p xs ≡ []) → (c : Bool) → int_eq q (key x) ≡ c → cond c (Some x) (at_key key xs q) ≡ None → filter p (x ∷ xs) ≡ []
  none_in x xs later true same e = absurd (let none : ⊥ = cc in none)
  none_in x xs later false other e = first_left x xs false (fails x other (p x) refl) ∙ later e

  -- nothing stands at the key
  pub none_left : (xs : List X) → at_key key xs q ≡ None → filter p xs ≡ []
  none_left [] e = refl
  none_left (x ∷ xs) e = none_in x xs (none_left xs) (int_eq q (key x)) refl e

  none_later : (x : X) (xs : List X) → Rises key (x ∷ xs) → int_eq q (key x) ≡ true → filter p xs ≡ []
  none_later x xs rise same = none_left xs (subst (λ (z : ℤ). at_key key xs z ≡ None) (sym (eq_from q (key x) same)) (none_below key xs (key x) rise.0))

  one_in : (x y : X) (xs : List X) → Rises key (x ∷ xs) → (at_key key xs q ≡ Some y → filter p xs ≡ cond (p y) (y ∷ []) []) →
      (c : Bool) → int_eq q (key x) ≡ c → cond c (Some x) (at_key key xs q) ≡ Some y → filter p (x ∷ xs) ≡ cond (p y) (y ∷ []) []
  one_in x y xs rise later true same e =
      let here : x ≡ y = cc in
      let alone : cond (p x) (x ∷ filter p xs) (filter p xs) ≡ cond (p x) (x ∷ []) [] = rw (none_later x xs rise same) in
      first_left x xs (p x) refl ∙ alone ∙ ap (λ (z : X). cond (p z) (z ∷ []) []) here
  one_in x y xs rise later false other e = first_left x xs false (fails x other (p x) refl) ∙ later e

  -- what stands at the key is left, where it passes
  pub one_left : (xs : List X) (y : X) → Rises key xs → at_key key xs q ≡ Some y → filter p xs ≡ cond (p y) (y ∷ []) []
  one_left [] y rise e = cc
  one_left (x ∷ xs) y rise e = one_in x y xs rise (one_left xs y rise.1) (int_eq q (key x)) refl e

-- where a row passes exactly if it has the key
module _ {X : Type 0} (key : X → ℤ) (p : X → Bool) (q : ℤ) (exact : (x : X) → p x ≡ int_eq (key x) q) where
  fixed : (x : X) → p x ≡ true → key x ≡ q
  fixed x is = eq_from (key x) q (sym (exact x) ∙ is)

  abbrev some_has : List X → Bool
  some_has xs = list_any (λ x. int_eq q (key x)) xs

  key_in : (x : X) (xs : List X) → Rises key (x ∷ xs) → map key (filter p xs) ≡ cond (some_has xs) (q ∷ []) [] →
      (c : Bool) → int_eq q (key x) ≡ c → map key (filter p (x ∷ xs)) ≡ cond (c || some_has xs) (q ∷ []) []
  key_in x xs rise later true same =
      let here : q ≡ key x = eq_from q (key x) same in
      let passes : p x ≡ true = exact x ∙ ap (λ (z : ℤ). int_eq z q) (sym here) ∙ eq_same q in
      ap (map key) (first_left key p q fixed x xs true passes)
      ∙ ap (λ (ys : List X). key x ∷ map key ys) (none_later key p q fixed x xs rise same)
      ∙ ap (λ (z : ℤ). z ∷ []) (sym here)
  key_in x xs rise later false other = ap (map key) (first_left key p q fixed x xs false (fails key p q fixed x other (p x) refl)) ∙ later

  -- the key is left, where something has it
  pub key_left : (xs : List X) → Rises key xs → map key (filter p xs) ≡ cond (some_has xs) (q ∷ []) []
  key_left [] rise = refl
  key_left (x ∷ xs) rise = key_in x xs rise (key_left xs rise.1) (int_eq q (key x)) refl
