-- Look-ups among rows that a row came to or left.
use Rattle.std.proofs.Common.{◌≡◌, ◌≢◌, ◌⊎◌, ℕ, ◌+◌, ◌<◌, ◌≤◌, Bool, true, false, ◌&&◌, cond, ℤ, List, [], ◌∷◌, get_or, Some, None, arith, refl, ap, sym, ◌∙◌, inl, inr}
use Rattle.std.specs.List.{count_by}
use Rattle.std.specs.Option.{option_map}
use Rattle.std.specs.Ordering.{int_eq}
use Rattle.std.proofs.lemmas.Bool.{cases_Bool, cases_lt, and_from, and_parts, true≢false}
use Rattle.std.proofs.lemmas.Bool.Decides.{Decides-int_eq}
use Rattle.rt_box.specs.declared.interval.Interval.{Interval}
use Rattle.rt_check.specs.Shadow.{ShadowLists}
use Rattle.rt_tree_walk.specs.declared.searching.Row.{Row}
use Rattle.rt_tree_walk.proofs.Reaching.{counted-contained}
use Rattle.rt_tree_node.proofs.Counts.{count-some}
use Rattle.rt_tree.specs.Lists.{rows_of, box_of, GainsRow, LosesRow}
use Rattle.rt_tree.proofs.Members.{find-one, find-nothing}

-- ---- whether boxes are the same
pub same_box : List Interval → List Interval → Bool
same_box [] [] = true
same_box [] (j ∷ b) = false
same_box (i ∷ a) [] = false
same_box (i ∷ a) (j ∷ b) = (int_eq i.lo j.lo && int_eq i.hi j.hi) && same_box a b

equal-ids : (x y : ℤ) → x ≡ y → int_eq x y ≡ true
equal-ids x y e = (Decides-int_eq x y).1 e

other-ids : (x y : ℤ) → x ≢ y → int_eq x y ≡ false
other-ids x y ne = elim (cases_Bool (int_eq x y)) [
  | inl e ↦ absurd (ne ((Decides-int_eq x y).0 e))
  | inr e ↦ e
]

same-itself : (a : List Interval) → same_box a a ≡ true
unfolding same_box
same-itself [] = refl
same-itself (i ∷ a) =
    and_from (int_eq i.lo i.lo && int_eq i.hi i.hi) (same_box a a)
    (and_from (int_eq i.lo i.lo) (int_eq i.hi i.hi) (equal-ids i.lo i.lo refl) (equal-ids i.hi i.hi refl)) (same-itself a)

same-is : (a b : List Interval) → same_box a b ≡ true → a ≡ b
unfolding same_box
same-is [] [] e = refl
same-is [] (j ∷ b) e = absurd (true≢false (sym e))
same-is (i ∷ a) [] e = absurd (true≢false (sym e))
same-is (i ∷ a) (j ∷ b) e =
    let h = and_parts (int_eq i.lo j.lo && int_eq i.hi j.hi) (same_box a b) e in
    let ends = and_parts (int_eq i.lo j.lo) (int_eq i.hi j.hi) h.0 in
    let lo = (Decides-int_eq i.lo j.lo).0 ends.0 in
    let hi = (Decides-int_eq i.hi j.hi).0 ends.1 in
    let with_lo : ℤ → Interval = λ z. record { lo = z; hi = i.hi } in
    let with_hi : ℤ → Interval = λ z. record { lo = j.lo; hi = z } in
    ap (λ k. k ∷ a) (ap with_lo lo ∙ ap with_hi hi) ∙ ap (λ c. j ∷ c) (same-is a b h.1)

passes : (id : ℤ) (rect : List Interval) → ◌≡◌ {A = ℕ} (cond (int_eq id id && same_box rect rect) 1 0) 1
passes id rect = ap (λ b. cond b 1 0) (and_from (int_eq id id) (same_box rect rect) (equal-ids id id refl) (same-itself rect))

has-it : (id : ℤ) → ◌≡◌ {A = ℕ} (cond (int_eq id id) 1 0) 1
has-it id = ap (λ b. cond b 1 0) (equal-ids id id refl)

module _ {D : ℕ} where
  -- the test of a row for an id, and for an id and a box
  abbrev has : ℤ → Row D → Bool
  has id r = int_eq id r.id

  abbrev is : ℤ → List Interval → Row D → Bool
  is id rect r = int_eq id r.id && same_box r.rect rect

  abbrev pub AreUnique : ShadowLists D → Type 0
  AreUnique s = (id : ℤ) → count_by (λ (r : Row D). int_eq id r.id) (rows_of s) ≤ 1

  module _ (s : ShadowLists D) (unique : AreUnique s) (id : ℤ) where
    pub counted-box : (rect : List Interval) → 0 < count_by (is id rect) (rows_of s) → box_of s id ≡ Some rect
    counted-box rect some =
        let h = counted-contained (is id rect) (rows_of s) some in
        let parts = and_parts (int_eq id h.0.id) (same_box h.0.rect rect) h.2 in
        ap (option_map (λ (r : Row D). r.rect)) (find-one (has id) (rows_of s) h.0 h.1 parts.0 (unique id)) ∙ ap Some (same-is h.0.rect rect parts.1)

    pub counted-none : count_by (has id) (rows_of s) ≡ 0 → box_of s id ≡ None
    counted-none none = ap (option_map (λ (r : Row D). r.rect)) (find-nothing (has id) (rows_of s) none)

    -- what the look-up finds is counted
    pub box-cases : ((box_of s id ≡ None) × (count_by (has id) (rows_of s) ≡ 0))
        ⊎ ((rect : List Interval) × (box_of s id ≡ Some rect) × (0 < count_by (is id rect) (rows_of s)))
    box-cases = elim (cases_lt 0 (count_by (has id) (rows_of s))) [
      | inl some ↦
          let h = counted-contained (has id) (rows_of s) some in
          let found = ap (option_map (λ (r : Row D). r.rect)) (find-one (has id) (rows_of s) h.0 h.1 h.2 (unique id)) in
          let yes_is : is id h.0.rect (get_or (rows_of s) h.1.0 h.0) ≡ true =
          ap (is id h.0.rect) h.1.2 ∙ and_from (int_eq id h.0.id) (same_box h.0.rect h.0.rect) h.2 (same-itself h.0.rect) in
          inr (h.0.rect, found, count-some (is id h.0.rect) (rows_of s) h.1.0 h.0 h.1.1 yes_is)
      | inr none ↦ let zero_have : count_by (has id) (rows_of s) ≡ 0 = omega (arith, none) in inl (counted-none zero_have, zero_have)
    ]

  -- where as many rows of an id pass each test, its look-up gives the same
  same-other : (a b : ShadowLists D) → AreUnique a → AreUnique b → (id : ℤ) →
      ((test : Row D → Bool) → ((r : Row D) → test r ≡ true → r.id ≡ id) → count_by test (rows_of b) ≡ count_by test (rows_of a)) → box_of b id ≡ box_of a id
  same-other a b unique_a unique_b id same = elim (box-cases a unique_a id) [
    | inl none ↦ counted-none b unique_b id (same (has id) (λ r h. sym ((Decides-int_eq id r.id).0 h)) ∙ none.1) ∙ sym none.0
    | inr some ↦
        let count = same (is id some.0) (λ r h. sym ((Decides-int_eq id r.id).0 (and_parts (int_eq id r.id) (same_box r.rect some.0) h).0)) in
        counted-box b unique_b id some.0 (omega (arith, count, some.2)) ∙ sym some.1
  ]

  -- a test that only rows of another id pass
  fails : (test : Row D → Bool) (other id : ℤ) (rect : List Interval) → other ≢ id → ((r : Row D) → test r ≡ true → r.id ≡ other) →
      ◌≡◌ {A = ℕ} (cond (test record { id = id; rect = rect }) 1 0) 0
  fails test other id rect ne only = elim (cases_Bool (test record { id = id; rect = rect })) [
    | inl e ↦ absurd (ne (sym (only (record { id = id; rect = rect }) e)))
    | inr e ↦ ap (λ b. cond b 1 0) e
  ]

  module _ (old new : ShadowLists D) (unique : AreUnique old) (unique_new : AreUnique new) (id : ℤ) (rect : List Interval) where
    pub gains : ((test : Row D → Bool) → count_by test (rows_of new) ≡ count_by test (rows_of old) + cond (test record { id = id; rect = rect }) 1 0) → GainsRow old new id rect
    gains rows = record {
      rows = rows;
      here = counted-box new unique_new id rect (omega (arith, rows (is id rect), passes id rect));
      others = λ other ne. same-other old new unique unique_new other (λ test only. omega (arith, rows test, fails test other id rect ne only));
    }

    pub loses : ((test : Row D → Bool) → count_by test (rows_of new) + cond (test record { id = id; rect = rect }) 1 0 ≡ count_by test (rows_of old)) → LosesRow old new id rect
    loses rows = record {
      rows = rows;
      was = counted-box old unique id rect (omega (arith, rows (is id rect), passes id rect));
      gone = counted-none new unique_new id (omega (arith, rows (has id), has-it id, unique id));
      others = λ other ne. same-other old new unique unique_new other (λ test only. omega (arith, rows test, fails test other id rect ne only));
    }
