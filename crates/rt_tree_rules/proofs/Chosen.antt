-- The choices by a least key are those of which contracts speak.
use Rattle.std.proofs.Common.{◌≡◌, ◌⊎◌, inl, inr, ℕ, zero, suc, ◌+◌, ◌-◌, ◌*◌, ◌<◌, ◌≤◌, Bool, true, false, cond, List, [], ◌∷◌, ◌++◌, map, length, refl, sym, ap, ◌∙◌, subst, arith}
use Rattle.std.specs.Prelude.{nat_lt, nat_eq}
use Rattle.std.specs.List.{range_with_len}
use Rattle.std.proofs.lemmas.Bool.{cases_eq}
use Rattle.std.proofs.lemmas.Bool.Decides.{nat_tests}
use Rattle.rt_box.specs.declared.interval.Interval.{Interval}
use Rattle.rt_box.specs.Capacity.{least_fill}
use Rattle.rt_tree_choice.specs.declared.split.Cut.{Cut}
use Rattle.rt_box.specs.Keys.{Less, IsLeast}
use Rattle.rt_tree_subtree.specs.Subtree.{child_key}
use Rattle.rt_tree_choice.specs.Split.{cut_at, first_sizes, axis_key, cut_key, IsCutOf}
use Rattle.rt_tree_rules.specs.Placing.{is_less, least, best_axis, cuts_of}
use Rattle.rt_tree_rules.specs.Laws.{BestChildIsTaken, BestCutIsTaken}

less_true : (xs ys : List ℕ) → Less xs ys → is_less xs ys ≡ true
less_true [] ys h = absurd h
less_true (x ∷ xs) [] h = absurd h
less_true (x ∷ xs) (y ∷ ys) (inl h) = let e : nat_lt x y ≡ true = grind (arith, nat_tests) in rw e
less_true (x ∷ xs) (y ∷ ys) (inr h) =
    let same : nat_eq x y ≡ true = grind (arith, nat_tests) in
    let not_less : nat_lt x y ≡ false = grind (arith, nat_tests) in
    let rest = less_true xs ys h.1 in
    rw (not_less, same, rest)

less_itself : (xs : List ℕ) → is_less xs xs ≡ false
less_itself [] = refl
less_itself (x ∷ xs) =
    let same : nat_eq x x ≡ true = grind (arith, nat_tests) in
    let not_less : nat_lt x x ≡ false = grind (arith, nat_tests) in
    let rest = less_itself xs in
    rw (not_less, same, rest)

less_false : (xs ys : List ℕ) → Less xs ys → is_less ys xs ≡ false
less_false [] ys h = absurd h
less_false (x ∷ xs) [] h = absurd h
less_false (x ∷ xs) (y ∷ ys) (inl h) =
    let other : nat_eq y x ≡ false = grind (arith, nat_tests) in
    let not_less : nat_lt y x ≡ false = grind (arith, nat_tests) in
    rw (not_less, other)
less_false (x ∷ xs) (y ∷ ys) (inr h) =
    let same : nat_eq y x ≡ true = grind (arith, nat_tests) in
    let not_less : nat_lt y x ≡ false = grind (arith, nat_tests) in
    let rest = less_false xs ys h.1 in
    rw (not_less, same, rest)

module _ {X : Type 0} where
  abbrev pub Each : (X → Type 0) → List X → Type 0
  Each P [] = Unit {0}
  Each P (x ∷ xs) = P x × Each P xs

  abbrev Has : X → List X → Type 0
  Has best [] = ⊥
  Has best (x ∷ xs) = (x ≡ best) ⊎ Has best xs

  pub each_append : (P : X → Type 0) (xs ys : List X) → Each P xs → Each P ys → Each P (xs ++ ys)
  each_append P [] ys h k = k
  each_append P (x ∷ xs) ys h k = (h.0, each_append P xs ys h.1 k)

  has_left : (x : X) (xs ys : List X) → Has x xs → Has x (xs ++ ys)
  has_left x [] ys h = absurd h
  has_left x (y ∷ xs) ys (inl h) = inl h
  has_left x (y ∷ xs) ys (inr h) = inr (has_left x xs ys h)

  has_right : (x : X) (xs ys : List X) → Has x ys → Has x (xs ++ ys)
  has_right x [] ys h = h
  has_right x (y ∷ xs) ys h = inr (has_right x xs ys h)

  -- the best element is left once it came
  least_best : (key : X → List ℕ) (best : X) (xs : List X) → Each (λ x. (x ≡ best) ⊎ Less (key best) (key x)) xs → least key best xs ≡ best
  least_best key best [] each = refl
  least_best key best (x ∷ xs) (inl e, each) =
      let no : is_less (key x) (key best) ≡ false = subst (λ (y : X). is_less (key y) (key best) ≡ false) (sym e) (less_itself (key best)) in
      rw no (least_best key best xs each)
  least_best key best (x ∷ xs) (inr less, each) =
      let no = less_false (key best) (key x) less in
      rw no (least_best key best xs each)

  either : (key : X → List ℕ) (best acc x : X) (b : Bool) → Less (key best) (key acc) → Less (key best) (key x) → Less (key best) (key (cond b x acc))
  either key best acc x true worse less = less
  either key best acc x false worse less = worse

  least_found : (key : X → List ℕ) (best acc : X) (xs : List X) → Less (key best) (key acc) →
      Each (λ x. (x ≡ best) ⊎ Less (key best) (key x)) xs → Has best xs → least key acc xs ≡ best
  least_found key best acc [] worse each has = absurd has
  least_found key best acc (x ∷ xs) worse (inl e, each) has =
      let yes : is_less (key x) (key acc) ≡ true = subst (λ (y : X). is_less (key y) (key acc) ≡ true) (sym e) (less_true (key best) (key acc) worse) in
      let same : least key x xs ≡ best = subst (λ (y : X). least key y xs ≡ best) (sym e) (least_best key best xs each) in
      rw yes same
  least_found key best acc (x ∷ xs) worse (inr less, each) (inl e) =
      let bad : is_less (key best) (key best) ≡ true = less_true (key best) (key best) (subst (λ (y : X). Less (key best) (key y)) e less) in
      let good = less_itself (key best) in
      cc
  least_found key best acc (x ∷ xs) worse (inr less, each) (inr has) =
      least_found key best (cond (is_less (key x) (key acc)) x acc) xs
      (either key best acc x (is_less (key x) (key acc)) worse less) each has

pub each_range : (P : ℕ → Type 0) (low n : ℕ) → ((k : ℕ) → low ≤ k → k < low + n → P k) → Each P (range_with_len low n)
each_range P low zero h = tt
each_range P low (suc n) h = (h low (omega arith) (omega arith), each_range P (low + 1) n (λ k a b. h k (omega arith) (omega arith)))

has_range : (low n k : ℕ) → low ≤ k → k < low + n → Has k (range_with_len low n)
has_range low zero k a b = absurd (omega arith)
has_range low (suc n) k a b = elim (cases_eq low k) [ inl e ↦ inl e | inr other ↦ inr (has_range (low + 1) n k (omega arith) (omega arith)) ]

-- the least number of a range, the range's first one being tried first
least_range : (key : ℕ → List ℕ) (high best : ℕ) → IsLeast key 0 high best → least key 0 (range_with_len 0 high) ≡ best
least_range key high best h =
    let each : Each (λ x. (x ≡ best) ⊎ Less (key best) (key x)) (range_with_len 0 high)
    = each_range (λ x. (x ≡ best) ⊎ Less (key best) (key x)) 0 high (λ k a b. elim (cases_eq k best) [
      | inl e ↦ inl e
      | inr other ↦ inr (h.least k a (omega arith) other)
    ]) in
    elim (cases_eq 0 best) [
      | inl e ↦ subst (λ (first : ℕ). least key first (range_with_len 0 high) ≡ best) (sym e) (least_best key best (range_with_len 0 high) each)
      | inr other ↦
          let has = has_range 0 high best (omega arith) (omega (arith, h.below_high)) in
          let below : 0 < high = omega (arith, h.below_high) in
          least_found key best 0 (range_with_len 0 high) (h.least 0 (omega arith) below other) each has
    ]

pub child : BestChildIsTaken
child above_leaves boxes new best h = least_range (child_key above_leaves boxes new) (length boxes) best h

pub each_map : {X Y : Type 0} (P : Y → Type 0) (f : X → Y) (xs : List X) → Each (λ x. P (f x)) xs → Each P (map f xs)
each_map P f [] h = tt
each_map P f (x ∷ xs) h = (h.0, each_map P f xs h.1)

has_map : {X Y : Type 0} (f : X → Y) (x : X) (xs : List X) → Has x xs → Has (f x) (map f xs)
has_map f x [] h = absurd h
has_map f x (y ∷ xs) (inl e) = inl (ap f e)
has_map f x (y ∷ xs) (inr h) = inr (has_map f x xs h)

cut_is : (cut : Cut) (axis : ℕ) (upper : Bool) → cut.axis ≡ axis → cut.upper ≡ upper → cut_at axis upper cut.first ≡ cut
cut_is cut axis upper e h = ap (λ (a : ℕ). cut_at a upper cut.first) (sym e) ∙ ap (λ (u : Bool). cut_at cut.axis u cut.first) (sym h)

is_cut : (capacity axis : ℕ) (upper : Bool) (k : ℕ) → 2 * least_fill capacity ≤ capacity + 1 → least_fill capacity ≤ k →
    k < least_fill capacity + (capacity + 2 - 2 * least_fill capacity) → IsCutOf capacity axis (cut_at axis upper k)
is_cut capacity axis upper k room a b = record { axis_is = refl; first_filled = a; second_filled = omega arith }

either_upper : (u : Bool) → (u ≡ false) ⊎ (u ≡ true)
either_upper true = inr refl
either_upper false = inl refl

least_from : {X : Type 0} (key : X → List ℕ) (best first : X) (xs : List X) → (first ≡ best) ⊎ Less (key best) (key first) →
    Each (λ x. (x ≡ best) ⊎ Less (key best) (key x)) xs → Has best xs → least key first xs ≡ best
least_from key best first xs (inl e) each has = rw e (least_best key best xs each)
least_from key best first xs (inr worse) each has = least_found key best first xs worse each has

cut_of : (capacity : ℕ) (boxes : List (List Interval)) (cut : Cut) (axis : ℕ) → axis ≡ cut.axis → IsCutOf capacity cut.axis cut →
    ((other : Cut) → IsCutOf capacity cut.axis other → (other ≡ cut) ⊎ Less (cut_key boxes cut) (cut_key boxes other)) →
    least (cut_key boxes) (cut_at axis false (least_fill capacity)) (cuts_of capacity axis) ≡ cut
cut_of capacity boxes cut axis same is least_one =
    let room : 2 * least_fill capacity ≤ capacity + 1 = omega (arith, is.first_filled, is.second_filled) in
    let low = least_fill capacity in
    let many = capacity + 2 - 2 * low in
    let P = λ (x : Cut). (x ≡ cut) ⊎ Less (cut_key boxes cut) (cut_key boxes x) in
    let good = λ (upper : Bool) (k : ℕ) (a : low ≤ k) (b : k < low + many).
    least_one (cut_at axis upper k) (subst (λ (x : ℕ). IsCutOf capacity x (cut_at axis upper k)) same (is_cut capacity axis upper k room a b)) in
    let each : Each P (cuts_of capacity axis) = each_append P (map (cut_at axis false) (first_sizes capacity)) (map (cut_at axis true) (first_sizes capacity))
    (each_map P (cut_at axis false) (first_sizes capacity) (each_range (λ k. P (cut_at axis false k)) low many (good false)))
    (each_map P (cut_at axis true) (first_sizes capacity) (each_range (λ k. P (cut_at axis true k)) low many (good true))) in
    let within : Has cut.first (first_sizes capacity) = has_range low many cut.first is.first_filled (omega (arith, is.second_filled, room)) in
    let has : Has cut (cuts_of capacity axis) = elim (either_upper cut.upper) [
      | inl e ↦ has_left cut (map (cut_at axis false) (first_sizes capacity)) (map (cut_at axis true) (first_sizes capacity))
          (subst (λ (c : Cut). Has c (map (cut_at axis false) (first_sizes capacity))) (cut_is cut axis false (sym same) e)
          (has_map (cut_at axis false) cut.first (first_sizes capacity) within))
      | inr e ↦ has_right cut (map (cut_at axis false) (first_sizes capacity)) (map (cut_at axis true) (first_sizes capacity))
          (subst (λ (c : Cut). Has c (map (cut_at axis true) (first_sizes capacity))) (cut_is cut axis true (sym same) e)
          (has_map (cut_at axis true) cut.first (first_sizes capacity) within))
    ] in
    least_from (cut_key boxes) cut (cut_at axis false low) (cuts_of capacity axis) (good false low (omega arith) (omega arith)) each has

pub cut : BestCutIsTaken
cut axes capacity boxes best h =
    let axis : best_axis axes capacity boxes ≡ best.axis = least_range (axis_key boxes capacity) axes best.axis h.axis_least in
    cut_of capacity boxes best (best_axis axes capacity boxes) axis h.is_cut h.least
