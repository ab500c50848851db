-- Numbers for listed keys, noted from the last to the first.
use Rattle.std.proofs.Common.{◌≡◌, ◌≢◌, ℕ, zero, suc, ◌+◌, ◌-◌, ◌<◌, ◌≤◌, cond, not, pos, List, ◌∷◌, length, get_or, drop, set, replicate, nat_eq, Contains, eq-eqb, ne_eqb, get_or-set_same, get_or-set_other, arith, ap, sym, ◌∙◌, subst, inl, inr}
use Rattle.std.specs.List.{All, position_or_len}
use Rattle.std.proofs.lemmas.Bool.{cases_eq}
use Rattle.std.proofs.lemmas.List.{drop_more, length-set, length-replicate, get_or-replicate, length-drop}
use Rattle.rt_tree_outside.specs.Outside.{noted}
use Rattle.rt_tree_walk.specs.Preorder.{number_in}

-- one of the last keys is noted with its place
abbrev pub place : List ℕ → ℕ → ℕ
place keys key = position_or_len (λ k. nat_eq k key) keys

pub record AreNoted (order : List ℕ) (bound : ℕ) (numbers : List ℕ) (back : ℕ) : Type 0 where
  pub long : length numbers ≡ bound
  pub small : All (λ n. n ≤ length order) numbers
  pub places : (key : ℕ) → Contains (drop (length order - back) order) key →
      get_or numbers key 0 ≡ (length order - back) + place (drop (length order - back) order) key + 1

abbrev pub nothing : ℕ
nothing = 0

pub contained-cons : (x key : ℕ) (xs : List ℕ) → x ≢ key → Contains (x ∷ xs) key → Contains xs key
contained-cons x key xs ne (zero, h, is) = absurd (ne is)
contained-cons x key xs ne (suc k, h, is) = (k, omega arith, is)

pub place-here : (x key : ℕ) (xs : List ℕ) → x ≡ key → place (x ∷ xs) key ≡ 0
place-here x key xs e = ap (λ b. cond (not b) (1 + place xs key) 0) (eq-eqb x key e)

pub place-later : (x key : ℕ) (xs : List ℕ) → x ≢ key → place (x ∷ xs) key ≡ 1 + place xs key
place-later x key xs ne = ap (λ b. cond (not b) (1 + place xs key) 0) (ne_eqb x key ne)

pub AreNoted-start : (order : List ℕ) (bound : ℕ) (numbers : List ℕ) → numbers ≡ replicate bound nothing → AreNoted order bound numbers 0
AreNoted-start order bound numbers e = subst (λ (ns : List ℕ). AreNoted order bound ns 0) (sym e) (record {
  long = length-replicate bound nothing;
  small = λ k d h. let long : length (replicate bound nothing) ≡ bound = length-replicate bound nothing in let r = get_or-replicate bound k nothing d (omega (arith, h, long)) in omega (arith, r);
  places = λ key h. absurd (omega (arith, h.1, length-drop (length order - 0) order));
})

pub AreNoted-step : (order : List ℕ) (bound : ℕ) (numbers : List ℕ) (back at key : ℕ) → AreNoted order bound numbers back → back < length order →
    at ≡ length order - 1 - back → key ≡ get_or order at 0 → key < bound → AreNoted order bound (set numbers key (at + 1)) (back + 1)
AreNoted-step order bound numbers back at key so h e f within = record {
  long = length-set numbers key (at + 1) ∙ so.long;
  small = λ k d lt. elim (cases_eq k key) [
    | inl is ↦ let r : get_or (set numbers key (at + 1)) k d ≡ at + 1 = ap (λ j. get_or (set numbers key (at + 1)) j d) is ∙ get_or-set_same numbers key (at + 1) d (omega (arith, so.long)) in omega (arith, r)
    | inr ne ↦ let r = get_or-set_other numbers key k (at + 1) d ne in omega (arith, r, so.small k d (omega (arith, lt, length-set numbers key (at + 1))))
  ];
  places = λ k there.
      let front : length order - (back + 1) ≡ at = omega arith in
      let after : at + 1 ≡ length order - back = omega arith in
      let split : drop (length order - (back + 1)) order ≡ key ∷ drop (length order - back) order =
      ap (λ n. drop n order) front ∙ drop_more order at 0 (omega arith) ∙ ap (λ x. x ∷ drop (at + 1) order) (sym f) ∙ ap (λ n. key ∷ drop n order) after in
      let there2 : Contains (key ∷ drop (length order - back) order) k = subst (λ (xs : List ℕ). Contains xs k) split there in
      let moved = ap (λ xs. place xs k) split in
      elim (cases_eq k key) [
        | inl is ↦
            let r : get_or (set numbers key (at + 1)) k 0 ≡ at + 1 = ap (λ j. get_or (set numbers key (at + 1)) j 0) is ∙ get_or-set_same numbers key (at + 1) 0 (omega (arith, so.long)) in
            omega (arith, r, moved, place-here key k (drop (length order - back) order) (sym is), front)
        | inr ne ↦
            let other : key ≢ k = λ q. ne (sym q) in
            let r = get_or-set_other numbers key k (at + 1) 0 ne in
            let before = so.places k (contained-cons key k (drop (length order - back) order) other there2) in
            omega (arith, r, moved, before, place-later key k (drop (length order - back) order) other, front, after)
      ];
}

pub AreNoted-end : (order : List ℕ) (bound : ℕ) (numbers : List ℕ) (back : ℕ) → back ≡ length order → AreNoted order bound numbers back →
    (key : ℕ) → Contains order key → noted numbers key ≡ number_in order key
AreNoted-end order bound numbers back e so key there =
    let none : length order - back ≡ 0 = omega arith in
    let whole : drop (length order - back) order ≡ order = ap (λ n. drop n order) none in
    let h = so.places key (subst (λ (xs : List ℕ). Contains xs key) (sym whole) there) in
    let p = ap (λ xs. place xs key) whole in
    ap pos (omega (arith, h, p, none))
