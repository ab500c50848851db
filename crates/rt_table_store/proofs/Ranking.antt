-- The greatest of many ids: in a list that rises, where ids come and go.
use Rattle.std.proofs.Common.{◌≡◌, ◌≢◌, ℕ, ◌+◌, ◌-◌, ◌<◌, ◌≤◌, ℤ, ◌≤ℤ◌, ◌<ℤ◌, Bool, true, false, ◌||◌, List, [], ◌∷◌, ◌++◌, length, get_or, take, drop, Option, Some, None, Contains, Bor, rules, inl, inr, arith, refl, sym, ap, subst, ◌∙◌}
use Rattle.std.specs.Prelude.{int_lt}
use Rattle.std.specs.List.{list_any, insert, HoldsAt}
use Rattle.std.specs.List.Sorted.{IsSorted, IsNonDecreasingBy, IsPartitionPoint}
use Rattle.std.specs.Option.{option_copied}
use Rattle.std.specs.Slice.{IsGetResult}
use Rattle.std.specs.Ordering.{int_eq, int_cmp, is_lt, is_eq, ordering_index}
use Rattle.std.specs.declared.cmp.Ordering.TheVariants.{Less, Equal, Greater}
use Rattle.std.proofs.lemmas.Bool.{cases_lt}
use Rattle.std.proofs.lemmas.Cmp.{int_ranked, by_ranked, int_cmp_total, int_eq_equiv}
use Rattle.std.proofs.lemmas.Int.{ints}
use Rattle.std.proofs.lemmas.List.{length-take, length-drop, get_or-take, get_or-drop, take_more, take_all, get_or_default}
use Rattle.std.proofs.lemmas.List.Folds.{list_any-append}
use Rattle.std.proofs.lemmas.List.Sorted.{sorted_far, ranks_by, searchable_from_sorted}
use Rattle.std.proofs.lemmas.Map.Views.{Contains-from_any, list_any-from_Contains}
use Rattle.indexmap.proofs.SortedLemmas.{sorted_insert}
use Rattle.rt_table_store.specs.GreatestIds.{IsTop, IsUpward, Ranks}
use Rattle.rt_table_store.proofs.Order.{eq_same, eq_from, three_ways}

not_less : (x y : ℤ) → is_lt (int_cmp x y) ≡ false → y ≤ℤ x
not_less x y e =
    by_ranked _ _ _ (int_cmp x y) (int_ranked x y (int_cmp x y) refl)
    (λ less h. let none : true ≡ false = sym (ap is_lt less) ∙ e in let never : ⊥ = cc in absurd never)
    (λ equal h. omega (arith, ints, h))
    (λ greater h. omega (arith, ints, h))

not_above : (x y : ℤ) → y ≤ℤ x → is_lt (int_cmp x y) ≡ false
not_above x y e =
    by_ranked _ _ _ (int_cmp x y) (int_ranked x y (int_cmp x y) refl)
    (λ less h. let never : ⊥ = omega (arith, ints, h, e) in absurd never)
    (λ equal h. ap is_lt equal)
    (λ greater h. ap is_lt greater)

-- what a comparison says
less_is : (x y : ℤ) → int_cmp x y ≡ Less → x ≤ℤ y
less_is x y e =
    by_ranked _ _ _ (int_cmp x y) (int_ranked x y (int_cmp x y) refl)
    (λ less h. omega (arith, ints, h))
    (λ equal h. omega (arith, ints, h))
    (λ greater h. let never : true ≡ false = sym (ap is_lt e) ∙ ap is_lt greater in let none : ⊥ = cc in absurd none)

equal_is : (x y : ℤ) → int_cmp x y ≡ Equal → x ≡ y
equal_is x y e =
    by_ranked _ _ _ (int_cmp x y) (int_ranked x y (int_cmp x y) refl)
    (λ less h. let never : true ≡ false = sym (ap is_lt less) ∙ ap is_lt e in let none : ⊥ = cc in absurd none)
    (λ equal h. h)
    (λ greater h. let never : true ≡ false = sym (ap is_eq e) ∙ ap is_eq greater in let none : ⊥ = cc in absurd none)

pub not-lt : (x y : ℤ) → int_lt x y ≡ false → y ≤ℤ x
not-lt x y e = grind (arith, ints)

both : (x y : ℤ) → x ≤ℤ y → y ≤ℤ x → x ≡ y
both x y h k = elim (three_ways x y) as (λ w. x ≡ y) [
  | inl below ↦ absurd (let none : ⊥ = omega (arith, ints, below, k) in none)
  | inr (inl same) ↦ same
  | inr (inr above) ↦ absurd (let none : ⊥ = omega (arith, ints, above, h) in none)
]

pub at-place : (xs : List ℤ) (id : ℤ) → list_any (int_eq id) xs ≡ true → Contains xs id
at-place xs id e = Contains-from_any eq_from id xs e

pub from-place : (xs : List ℤ) (k : ℕ) (d : ℤ) → k < length xs → list_any (int_eq (get_or xs k d)) xs ≡ true
from-place xs k d h = list_any-from_Contains int_eq_equiv (get_or xs k d) xs (k, h, get_or_default xs k (get_or xs k d) d h)

module _ (xs : List ℤ) (rise : IsSorted int_cmp xs) where
  -- an id is at most each one behind it
  pub at-most : (i j : ℕ) (d : ℤ) → i ≤ j → j < length xs → get_or xs i d ≤ℤ get_or xs j d
  at-most i j d h k = not_less (get_or xs j d) (get_or xs i d) (sorted_far (λ x y. is_lt (int_cmp x y)) (ranks_by int_cmp_total (λ x. x)) xs rise i j d h k)

  -- none is below the first, and none above the last
  pub from-first : (d other : ℤ) → list_any (int_eq other) xs ≡ true → get_or xs 0 d ≤ℤ other
  from-first d other e =
      let c = at-place xs other e in
      subst (λ (z : ℤ). get_or xs 0 d ≤ℤ z) (get_or_default xs c.0 d other c.1 ∙ c.2) (at-most 0 c.0 d (omega arith) c.1)

  pub to-last : (d other : ℤ) → list_any (int_eq other) xs ≡ true → other ≤ℤ get_or xs (length xs - 1) d
  to-last d other e =
      let c = at-place xs other e in
      let h = c.1 in
      subst (λ (z : ℤ). z ≤ℤ get_or xs (length xs - 1) d) (get_or_default xs c.0 d other c.1 ∙ c.2) (at-most c.0 (length xs - 1) d (omega (arith, h)) (omega (arith, h)))

  -- an id goes before one that is equal, or between those below and those above it
  in_place : (id : ℤ) (i : ℕ) → i ≤ length xs → ((d : ℤ) → 0 < i → get_or xs (i - 1) d ≤ℤ id) → ((d : ℤ) → i < length xs → id ≤ℤ get_or xs i d) → IsSorted int_cmp (insert xs i id)
  in_place id i le low high =
      sorted_insert int_cmp int_eq int_cmp_total (λ x y. refl) xs id i le rise (λ d h. not_above id (get_or xs (i - 1) d) (low d h)) (λ d h. not_above (get_or xs i d) id (high d h))

  pub at-equal : (id : ℤ) (i : ℕ) → i < length xs → HoldsAt (λ y. int_cmp y id ≡ Equal) xs i → IsSorted int_cmp (insert xs i id)
  at-equal id i h at = in_place id i (omega arith)
      (λ d k. subst (λ (z : ℤ). get_or xs (i - 1) d ≤ℤ z) (equal_is (get_or xs i d) id (at d)) (at-most (i - 1) i d (omega arith) h))
      (λ d k. subst (λ (z : ℤ). z ≤ℤ get_or xs i d) (equal_is (get_or xs i d) id (at d)) (at-most i i d (omega arith) h))

  pub at-gap : (id : ℤ) (i : ℕ) → i ≤ length xs → (IsNonDecreasingBy (λ y. ordering_index (int_cmp y id)) xs → IsPartitionPoint (λ y. int_cmp y id ≡ Less) (λ y. int_cmp y id ≡ Greater) xs i) →
      IsSorted int_cmp (insert xs i id)
  at-gap id i h gap =
      let parts = gap (searchable_from_sorted int_cmp_total (λ x. x) xs id rise) in
      in_place id i h
      (λ d k. less_is (get_or xs (i - 1) d) id (parts.0 (i - 1) d (omega arith) (omega (arith, k))))
      (λ d k. not_less (get_or xs i d) id (ap is_lt (parts.1 i d (omega arith) k)))

  -- where the first ids go, the others are the greatest still
  module _ (h : ℕ) (inside : h < length xs) where
    among : (other : ℤ) → list_any (int_eq other) (drop h xs) ≡ true → (k : ℕ) × (h ≤ k) × (k < length xs) × (get_or xs k other ≡ other)
    among other e =
        let c = at-place (drop h xs) other e in
        let short = c.1 in
        (h + c.0, omega arith, omega (arith, short, length-drop h xs), sym (get_or-drop h xs c.0 other) ∙ c.2)

    from-among : (other : ℤ) → list_any (int_eq other) (drop h xs) ≡ true → list_any (int_eq other) xs ≡ true
    from-among other e =
        let c = among other e in
        subst (λ (z : ℤ). list_any (int_eq z) xs ≡ true) c.3 (from-place xs c.0 other c.2)

    stays : (a other : ℤ) → list_any (int_eq a) xs ≡ true → list_any (int_eq other) (drop h xs) ≡ true → other ≤ℤ a → list_any (int_eq a) (drop h xs) ≡ true
    stays a other e o le = by (at-place xs a e) (among other o)
      where
        by : Contains xs a → ((k : ℕ) × (h ≤ k) × (k < length xs) × (get_or xs k other ≡ other)) → list_any (int_eq a) (drop h xs) ≡ true
        by c k = elim (cases_lt c.0 h) as (λ w. list_any (int_eq a) (drop h xs) ≡ true) [
          | inl before ↦
              let up : get_or xs c.0 other ≤ℤ get_or xs k.0 other = at-most c.0 k.0 other (let behind = k.1 in omega (arith, before, behind)) k.2 in
              let low : a ≤ℤ other = subst (λ (z : ℤ). a ≤ℤ z) k.3 (subst (λ (z : ℤ). z ≤ℤ get_or xs k.0 other) (get_or_default xs c.0 other a c.1 ∙ c.2) up) in
              subst (λ (z : ℤ). list_any (int_eq z) (drop h xs) ≡ true) (both other a le low) o
          | inr behind ↦
              let inside_xs = c.1 in
              let place : h + (c.0 - h) ≡ c.0 = omega (arith, behind) in
              let at : get_or (drop h xs) (c.0 - h) a ≡ a = get_or-drop h xs (c.0 - h) a ∙ ap (λ (j : ℕ). get_or xs j a) place ∙ c.2 in
              subst (λ (z : ℤ). list_any (int_eq z) (drop h xs) ≡ true) at (from-place (drop h xs) (c.0 - h) a (omega (arith, behind, inside_xs, length-drop h xs)))
        ]

    pub ranks-dropped : (there : ℤ → Bool) → Ranks there xs → Ranks there (drop h xs)
    ranks-dropped there r = record {
      upward = λ id other t o le. stays id other (r.upward id other t (from-among other o) le) o le;
      top = λ id top. r.top id (from-among id top.0, λ other o. below id other top o);
      some = λ id t. omega (arith, inside, length-drop h xs);
    }
      where
        below : (id other : ℤ) → IsTop (drop h xs) (Some id) → list_any (int_eq other) xs ≡ true → other ≤ℤ id
        below id other top o = elim (three_ways other id) as (λ w. other ≤ℤ id) [
          | inl less ↦ omega (arith, ints, less)
          | inr (inl same) ↦ omega (arith, ints, same)
          | inr (inr more) ↦ top.1 other (stays other id o top.0 (omega (arith, ints, more)))
        ]

    pub sorted-dropped : IsSorted int_cmp (drop h xs)
    sorted-dropped = λ k d z lt.
        rw (get_or-drop h xs (k + 1) d, get_or-drop h xs k d)
        (subst (λ (j : ℕ). is_lt (int_cmp (get_or xs j d) (get_or xs (h + k) d)) ≡ false) (let e : (h + k) + 1 ≡ h + (k + 1) = omega arith in e) (rise (h + k) d (omega arith) (omega (arith, lt, length-drop h xs))))

  pub sorted-taken : (n : ℕ) → IsSorted int_cmp (take n xs)
  sorted-taken n = λ k d z lt.
      let short : k + 1 < n = omega (arith, lt, length-take n xs) in
      rw (get_or-take n xs (k + 1) d short, get_or-take n xs k d (omega (arith, short))) (rise k d z (omega (arith, lt, length-take n xs)))

  -- the largest of them is the last
  pub top-is-last : (id d : ℤ) → IsTop xs (Some id) → id ≡ get_or xs (length xs - 1) d
  top-is-last id d top =
      let c = at-place xs id top.0 in
      let some = c.1 in
      both id (get_or xs (length xs - 1) d) (to-last d id top.0) (top.1 (get_or xs (length xs - 1) d) (from-place xs (length xs - 1) d (omega (arith, some))))

pub last-is-top : (xs : List ℤ) → IsSorted int_cmp xs → (r : Option (Bor ℤ)) → IsGetResult xs 0 (length xs - 1) r → IsTop xs (option_copied r)
last-is-top [] rise None item = refl
last-is-top (x ∷ xs) rise None item = absurd (omega arith)
last-is-top xs rise (Some x) item =
    let some : 0 < length xs = item.3.0 in
    let is : x.now ≡ get_or xs (length xs - 1) x.now = search rules in
    subst (λ (z : ℤ). IsTop xs (Some z)) (sym is) (from-place xs (length xs - 1) x.now (omega (arith, some)), λ other o. to-last xs rise x.now other o)

pub split-last : (xs : List ℤ) (d : ℤ) → 0 < length xs → xs ≡ take (length xs - 1) xs ++ get_or xs (length xs - 1) d ∷ []
split-last xs d some =
    sym (take_all ((length xs - 1) + 1) xs (omega (arith, some))) ∙ take_more xs (length xs - 1) d (omega (arith, some))

pub some-of : (xs : List ℤ) (id : ℤ) → list_any (int_eq id) xs ≡ true → 0 < length xs
some-of xs id e = let c = at-place xs id e in let h = c.1 in omega (arith, h)

either : (a b : Bool) → b ≡ true → (a || b) ≡ true
either true b e = refl
either false b e = e

module _ (there : ℤ → Bool) (xs : List ℤ) where
  -- an id that isn't there goes from the end
  pub upward-popped : (ys : List ℤ) (x : ℤ) → xs ≡ ys ++ x ∷ [] → there x ≡ false → IsUpward there xs → IsUpward there ys
  upward-popped ys x is gone up = λ id other t o le.
      let before : list_any (int_eq other) xs ≡ true = ap (list_any (int_eq other)) is ∙ list_any-append (int_eq other) ys (x ∷ []) ∙ (rw o refl) in
      last id t (int_eq id x) refl (sym (ap (list_any (int_eq id)) is ∙ list_any-append (int_eq id) ys (x ∷ [])) ∙ up id other t before le)
    where
      last : (id : ℤ) → there id ≡ true → (b : Bool) → int_eq id x ≡ b → (list_any (int_eq id) ys || (b || false)) ≡ true → list_any (int_eq id) ys ≡ true
      last id t true same h =
          let none : true ≡ false = sym t ∙ ap there (eq_from id x same) ∙ gone in
          let never : ⊥ = cc in absurd never
      last id t false other h = or_false (list_any (int_eq id) ys) h
        where
          or_false : (a : Bool) → (a || false) ≡ true → a ≡ true
          or_false true e = refl
          or_false false e = e

  module _ (r : Ranks there xs) (id : ℤ) where
    with-id : ℤ → Bool
    with-id other = int_eq other id || there other

    -- an id that came stands among the others, and those above it are among them
    pub ranks-put : (new : List ℤ) → ((other : ℤ) → list_any (int_eq other) new ≡ (int_eq other id || list_any (int_eq other) xs)) →
        ((other : ℤ) → there other ≡ true → id ≤ℤ other → list_any (int_eq other) xs ≡ true) → Ranks (λ other. int_eq other id || there other) new
    ranks-put new came low = record {
      upward = λ a other t o le. came a ∙ up a other (int_eq a id) refl t (int_eq other id) refl (sym (came other) ∙ o) le;
      top = λ t top. is-there t (int_eq t id) refl (sym (came t) ∙ top.0) (λ o h. top.1 o (came o ∙ either (int_eq o id) (list_any (int_eq o) xs) h));
      some = λ other t. some-of new id (came id ∙ ap (λ (b : Bool). b || list_any (int_eq id) xs) (eq_same id));
    }
      where
        up : (a other : ℤ) (b : Bool) → int_eq a id ≡ b → (b || there a) ≡ true → (c : Bool) → int_eq other id ≡ c → (c || list_any (int_eq other) xs) ≡ true → other ≤ℤ a →
            (int_eq a id || list_any (int_eq a) xs) ≡ true
        up a other true same t c e o le = ap (λ (b : Bool). b || list_any (int_eq a) xs) same
        up a other false not t true same o le = either (int_eq a id) (list_any (int_eq a) xs) (low a t (subst (λ (z : ℤ). z ≤ℤ a) (eq_from other id same) le))
        up a other false not t false not_other o le = either (int_eq a id) (list_any (int_eq a) xs) (r.upward a other t o le)

        is-there : (t : ℤ) (b : Bool) → int_eq t id ≡ b → (b || list_any (int_eq t) xs) ≡ true → ((o : ℤ) → list_any (int_eq o) xs ≡ true → o ≤ℤ t) → (int_eq t id || there t) ≡ true
        is-there t true same h most = ap (λ (b : Bool). b || there t) same
        is-there t false other h most = either (int_eq t id) (there t) (r.top t (h, most))

    -- where one of them isn't above the id, all that are above it are among them
    pub reached : (0 < length xs → (least : ℤ) × (list_any (int_eq least) xs ≡ true) × (least ≤ℤ id)) → (other : ℤ) → there other ≡ true → id ≤ℤ other → list_any (int_eq other) xs ≡ true
    reached least other t le = by (least (r.some other t))
      where
        by : ((z : ℤ) × (list_any (int_eq z) xs ≡ true) × (z ≤ℤ id)) → list_any (int_eq other) xs ≡ true
        by w = r.upward other w.0 t w.1 (let low = w.2 in omega (arith, ints, low, le))

    -- an id that came is below them all
    pub ranks-passed : 0 < length xs → ((other : ℤ) → list_any (int_eq other) xs ≡ true → id <ℤ other) → Ranks (λ other. int_eq other id || there other) xs
    ranks-passed some below = record {
      upward = λ a other t o le. up a other (int_eq a id) refl t o le;
      top = λ t top. either (int_eq t id) (there t) (r.top t top);
      some = λ other t. some;
    }
      where
        up : (a other : ℤ) (b : Bool) → int_eq a id ≡ b → (b || there a) ≡ true → list_any (int_eq other) xs ≡ true → other ≤ℤ a → list_any (int_eq a) xs ≡ true
        up a other true same t o le =
            let less = below other o in
            let is = eq_from a id same in
            let never : ⊥ = omega (arith, ints, less, le, is) in absurd never
        up a other false not t o le = r.upward a other t o le

  pub ranks-same : (also : ℤ → Bool) → ((id : ℤ) → there id ≡ also id) → Ranks there xs → Ranks also xs
  ranks-same also same r = record {
    upward = λ id other t o le. r.upward id other (same id ∙ t) o le;
    top = λ id top. sym (same id) ∙ r.top id top;
    some = λ id t. r.some id (same id ∙ t);
  }

  -- where another id than the largest goes, the others are there still
  pub ranks-kept : (also : ℤ → Bool) (id : ℤ) (o : Option ℤ) → IsTop xs o → o ≢ Some id → Ranks there xs → ((other : ℤ) → also other ≡ true → there other ≡ true) →
      ((other : ℤ) → other ≢ id → there other ≡ true → also other ≡ true) → Ranks also xs
  ranks-kept also id o top ne r gone kept = record {
    upward = λ a other t b le. r.upward a other (gone a t) b le;
    top = λ z is. kept z (λ e. ne (same o top z is ∙ ap Some e)) (r.top z is);
    some = λ a t. r.some a (gone a t);
  }
    where
      same : (p : Option ℤ) → IsTop xs p → (z : ℤ) → IsTop xs (Some z) → p ≡ Some z
      same None empty z is =
          let none : false ≡ true = sym (ap (list_any (int_eq z)) empty) ∙ is.0 in
          absurd (let never : ⊥ = cc in never)
      same (Some t) top z is = ap Some (both t z (is.1 t top.0) (top.1 z is.0))

  -- all that are there
  pub ranks-all : ((id : ℤ) → list_any (int_eq id) xs ≡ there id) → Ranks there xs
  ranks-all same = record {
    upward = λ id other t o le. same id ∙ t;
    top = λ id top. sym (same id) ∙ top.0;
    some = λ id t. some-of xs id (same id ∙ t);
  }

turned : (a b c : Bool) → (a || (b || c)) ≡ ((b || (a || false)) || c)
turned true true c = refl
turned true false c = refl
turned false true c = refl
turned false false c = refl

-- an id that came goes behind those before it
pub behind : (id x : ℤ) (xs : List ℤ) (b : Bool) → (int_eq id x || (list_any (int_eq id) xs || b)) ≡ (list_any (int_eq id) (xs ++ x ∷ []) || b)
behind id x xs b = turned (int_eq id x) (list_any (int_eq id) xs) b ∙ ap (λ (c : Bool). c || b) (sym (list_any-append (int_eq id) xs (x ∷ [])))
