-- What a search finds of the rows that touch a box, and what is found by two of them.
use Rattle.std.proofs.Common.{◌≡◌, ◌⊎◌, ℕ, ◌+◌, Bool, true, false, not, ◌&&◌, ◌||◌, cond, ℤ, List, [], ◌∷◌, ◌++◌, Contains, Option, Some, None, arith, refl, ap, sym, ◌∙◌, subst, inl, inr}
use Rattle.std.specs.Prelude.{filter, int_le}
use Rattle.std.specs.Bool.{Decides}
use Rattle.std.specs.List.{All, AllZip, count_by, flat_map}
use Rattle.std.specs.List.Sorted.{IsPermutation, IsSortedByKey}
use Rattle.std.specs.Ordering.{int_eq, int_cmp}
use Rattle.std.proofs.lemmas.Bool.{cases_Bool, and_from, and_parts, true≢false}
use Rattle.std.proofs.lemmas.Bool.Decides.{Decides-and, Decides-int_eq, same_from_decides}
use Rattle.rt_box.specs.declared.interval.Interval.{Interval}
use Rattle.rt_box.specs.Interval.{Includes}
use Rattle.rt_box.specs.Rect.{IsBox, coordinates}
use Rattle.rt_box.specs.Window.{Admits}
use Rattle.rt_check.specs.declared.node.NodeRow.{NodeRow}
use Rattle.rt_check.specs.declared.node.RawCell.{RawCell}
use Rattle.rt_check.specs.Shadow.{ShadowLists}
use Rattle.rt_check.specs.Conditions.{is_leaf, leaf_cells}
use Rattle.rt_tree_node.proofs.Counts.{count-cons, count-append}
use Rattle.rt_tree_walk.specs.declared.searching.Row.{Row}
use Rattle.rt_tree_walk.proofs.Ints.{int_le-true, int_le-from}
use Rattle.rt_tree_walk.proofs.Reaching.{All_contained}
use Rattle.rt_tree_join.specs.Join.{touch, IsTouching}
use Rattle.rt_tree.specs.Lists.{IsInShape, box_in, row_in, rows_of}
use Rattle.rt_tree.specs.Boxes.{HasBoxes}
use Rattle.rt_tree.specs.Search.{FindsIn, FindsInAfter, CountsIn}
use Rattle.rt_tree.proofs.Members.{contains-here, contains-later, contains-cases, contains-none, contains-mapped}
use Rattle.rt_live.specs.Rows.{by_id}
use Rattle.rt_live.specs.Changes.{same_box, touches}
use Rattle.rt_live.specs.Finding.{Encloses, is_apart, is_new, is_told, touches_hull, touches_either, Appends}
use Rattle.rt_live.proofs.Sorted.{rises-filter}
use Rattle.rt_live.proofs.Alike.{count_alike, count_kept, count_permuted, sorted_climbs, same_counts}
use Rattle.rt_live.proofs.Counting.{filter-long, all-kept, absorbed}
use Rattle.rt_live.proofs.ById.{id_of, rises-by_id}
use Rattle.rt_live.proofs.Once.{by_id-counts}
use Rattle.rt_live.proofs.Telling.{told-either}

-- ---- whether boxes and rows are the same
equal-ids : (x y : ℤ) → x ≡ y → int_eq x y ≡ true
equal-ids x y e = (Decides-int_eq x y).1 e

same-itself : (a : List Interval) → same_box a a ≡ true
same-itself [] = refl
same-itself (i ∷ a) =
    and_from (int_eq i.lo i.lo && int_eq i.hi i.hi) (same_box a a)
    (and_from (int_eq i.lo i.lo) (int_eq i.hi i.hi) (equal-ids i.lo i.lo refl) (equal-ids i.hi i.hi refl)) (same-itself a)

same-is : (a b : List Interval) → same_box a b ≡ true → a ≡ b
same-is [] [] e = refl
same-is [] (j ∷ b) e = absurd (true≢false (sym e))
same-is (i ∷ a) [] e = absurd (true≢false (sym e))
same-is (i ∷ a) (j ∷ b) e =
    let h = and_parts (int_eq i.lo j.lo && int_eq i.hi j.hi) (same_box a b) e in
    let ends = and_parts (int_eq i.lo j.lo) (int_eq i.hi j.hi) h.0 in
    let lo = (Decides-int_eq i.lo j.lo).0 ends.0 in
    let hi = (Decides-int_eq i.hi j.hi).0 ends.1 in
    let with_lo : ℤ → Interval = λ z. record { lo = z; hi = i.hi } in
    let with_hi : ℤ → Interval = λ z. record { lo = j.lo; hi = z } in
    ap (λ k. k ∷ a) (ap with_lo lo ∙ ap with_hi hi) ∙ ap (λ c. j ∷ c) (same-is a b h.1)

pub same_box-Decides : (a b : List Interval) → Decides (same_box a b) (a ≡ b)
same_box-Decides a b = (same-is a b, λ e. subst (λ (c : List Interval). same_box a c ≡ true) e (same-itself a))

module _ {D : ℕ} where
  pub same_row : Row D → Row D → Bool
  same_row r q = int_eq r.id q.id && same_box r.rect q.rect

  pub row-itself : (r : Row D) → same_row r r ≡ true
  unfolding same_row
  row-itself r = and_from (int_eq r.id r.id) (same_box r.rect r.rect) (equal-ids r.id r.id refl) (same-itself r.rect)

  pub row-same : (r q : Row D) → same_row r q ≡ true → r ≡ q
  unfolding same_row
  row-same r q e =
      let parts = and_parts (int_eq r.id q.id) (same_box r.rect q.rect) e in
      let with_id : ℤ → Row D = λ z. record { id = z; rect = r.rect } in
      let with_rect : List Interval → Row D = λ b. record { id = q.id; rect = b } in
      ap with_id ((Decides-int_eq r.id q.id).0 parts.0) ∙ ap with_rect (same-is r.rect q.rect parts.1)

-- ---- whether a window admits a box, as a test
admits_each : List Interval → List ℤ → Bool
admits_each [] [] = true
admits_each [] (z ∷ zs) = false
admits_each (i ∷ w) [] = false
admits_each (i ∷ w) (z ∷ zs) = (int_le i.lo z && int_le z i.hi) && admits_each w zs

admits-decides : (w : List Interval) (zs : List ℤ) → Decides (admits_each w zs) (AllZip Includes w zs)
unfolding admits_each
admits-decides [] [] = (λ e. tt, λ h. refl)
admits-decides [] (z ∷ zs) = (λ e. absurd (true≢false (sym e)), λ h. absurd h)
admits-decides (i ∷ w) [] = (λ e. absurd (true≢false (sym e)), λ h. absurd h)
admits-decides (i ∷ w) (z ∷ zs) =
    Decides-and (int_le i.lo z && int_le z i.hi) (admits_each w zs)
    (Decides-and (int_le i.lo z) (int_le z i.hi) (int_le-true i.lo z, int_le-from i.lo z) (int_le-true z i.hi, int_le-from z i.hi))
    (admits-decides w zs)

-- ---- lists
append_cases : {X : Type 0} (xs ys : List X) (x : X) → Contains (xs ++ ys) x → Contains xs x ⊎ Contains ys x
append_cases [] ys x h = inr h
append_cases (z ∷ zs) ys x h = elim (contains-cases z x (zs ++ ys) h) [
  | inl same ↦ inl (subst (Contains (z ∷ zs)) same (contains-here z zs))
  | inr later ↦ elim (append_cases zs ys x later) [
    | inl first ↦ inl (contains-later z x zs first)
    | inr rest ↦ inr rest
  ]
]

flat_from : {X Y : Type 0} (f : X → List Y) (xs : List X) (y : Y) → Contains (flat_map f xs) y → (x : X) × Contains xs x × Contains (f x) y
flat_from f [] y h = absurd (contains-none y h)
flat_from f (x ∷ xs) y h = elim (append_cases (f x) (flat_map f xs) y h) [
  | inl first ↦ (x, contains-here x xs, first)
  | inr rest ↦ let r = flat_from f xs y rest in (r.0, contains-later x r.0 xs r.1, r.2)
]

pub count-none : {X : Type 0} (test : X → Bool) (xs : List X) → count_by (λ x. false && test x) xs ≡ 0
count-none test [] = refl
count-none test (x ∷ xs) = omega (arith, count-cons (λ y. false && test y) x xs, count-none test xs)

-- what passes either of two tests that nothing passes both
pub count-either : {X : Type 0} (f g h : X → Bool) (xs : List X) → ((x : X) → ◌≡◌ {A = ℕ} (cond (h x) 1 0) (cond (f x) 1 0 + cond (g x) 1 0)) →
    count_by h xs ≡ count_by f xs + count_by g xs
count-either f g h [] split = refl
count-either f g h (x ∷ xs) split = omega (arith, split x, count-cons f x xs, count-cons g x xs, count-cons h x xs, count-either f g h xs split)

and-three : (a b c : Bool) → (a && (b && c)) ≡ ((a && b) && c)
and-three true b c = refl
and-three false b c = refl

either-split : (a b t : Bool) → ◌≡◌ {A = ℕ} (cond ((a || b) && t) 1 0) (cond ((a && not false) && t) 1 0 + cond ((b && not a) && t) 1 0)
either-split true true true = refl
either-split true true false = refl
either-split true false true = refl
either-split true false false = refl
either-split false true true = refl
either-split false true false = refl
either-split false false true = refl
either-split false false false = refl

inside-both : (t c x : Bool) → (c ≡ true → t ≡ true) → (t && (c && x)) ≡ (c && x)
inside-both true c x h = refl
inside-both false true x h = absurd (true≢false (sym (h refl)))
inside-both false false x h = refl

module _ {D : ℕ} where
  -- the box of a row is a box
  pub row_is_box : (s : ShadowLists D) → HasBoxes s → (r : Row D) → Contains (rows_of s) r → IsBox D r.rect
  row_is_box s boxes r there =
      let cell = contains-mapped row_in (leaf_cells s.nodes) r there in
      let node = flat_from (λ (n : NodeRow D). cond (is_leaf n) n.cells []) s.nodes cell.0 cell.1 in
      let within = in_node node.0 cell.0 node.2 in
      let box = All_contained (λ (c : RawCell D). IsBox D (box_in c)) node.0.cells cell.0
      (All_contained (λ (m : NodeRow D). All (λ (c : RawCell D). IsBox D (box_in c)) m.cells) s.nodes node.0 boxes node.1) within in
      subst (IsBox D) (ap (λ (q : Row D). q.rect) cell.2) box
    where
      in_node : (n : NodeRow D) (c : RawCell D) → Contains (cond (is_leaf n) n.cells []) c → Contains n.cells c
      in_node n c h = elim (cases_Bool (is_leaf n)) [
        | inl e ↦ subst (λ (b : Bool). Contains (cond b n.cells []) c) e h
        | inr e ↦ absurd (contains-none c (subst (λ (b : Bool). Contains (cond b n.cells []) c) e h))
      ]

  -- ---- one search
  -- a list that had no rows before
  pub finds_alone : (s : ShadowLists D) (window : List Interval) (old rows : List (Row D)) (visited : ℕ) → old ≡ [] → FindsInAfter s window old rows visited → FindsIn s window rows visited
  finds_alone s window old rows visited none after =
      subst (λ (found : List (Row D)). FindsIn s window found visited) (sym (after.is ∙ ap (λ (xs : List (Row D)). xs ++ after.more) none)) after.finds

  module _ (s : ShadowLists D) (boxes : HasBoxes s) (rect window : List Interval) (around : IsTouching D rect window) (except : Option (List Interval)) where
    admits_row : Row D → Bool
    admits_row r = admits_each window (coordinates r.rect)

    touched : (r : Row D) → Contains (rows_of s) r → admits_row r ≡ touch rect r.rect
    unfolding admits_row
    touched r there =
        let decides = admits-decides window (coordinates r.rect) in
        let both = around r.rect (row_is_box s boxes r there) in
        same_from_decides {P = Admits window r.rect} (admits_row r) (touch rect r.rect) decides ((λ e. both.1 e), (λ h. both.0 h))

    all-admitted : (found : List (Row D)) → All (λ r. Admits window r.rect) found → (r : Row D) → Contains found r → admits_row r ≡ true
    unfolding admits_row
    all-admitted found admitted r there = (admits-decides window (coordinates r.rect)).1 (All_contained (λ q. Admits window q.rect) found r admitted there)

    only-admitted : (r : Row D) (rest : Bool) → (admits_row r && rest) ≡ true → Admits window r.rect
    unfolding admits_row
    only-admitted r rest e = (admits-decides window (coordinates r.rect)).0 (and_parts (admits_row r) rest e).0

    admitted-row : (r : Row D) → Contains (rows_of s) r → touch rect r.rect ≡ true → Admits window r.rect
    unfolding admits_row
    admitted-row r there e = (admits-decides window (coordinates r.rect)).0 (touched r there ∙ e)

    row-admitted : (r : Row D) → Contains (rows_of s) r → Admits window r.rect → touch rect r.rect ≡ true
    unfolding admits_row
    row-admitted r there h = sym (touched r there) ∙ (admits-decides window (coordinates r.rect)).1 h

    -- as many rows as the window admits touch the box
    pub counts-touching : CountsIn s window (count_by (λ (r : Row D). touch rect r.rect) (rows_of s))
    counts-touching = record {
      rows = filter (λ r. touch rect r.rect) (rows_of s);
      admitted = all-kept (λ r. touch rect r.rect) (λ r. Admits window r.rect) (rows_of s) admitted-row;
      each = λ test asks. count_kept (λ r. touch rect r.rect) test (rows_of s)
          ∙ count_alike (λ r. touch rect r.rect && test r) test (rows_of s) (λ r there. absorbed (touch rect r.rect) (test r) (λ e. row-admitted r there (asks r e)));
      counted = sym (filter-long (λ r. touch rect r.rect) (rows_of s));
    }

    -- as many rows touch the box as were found
    pub searched : (found : List (Row D)) (visited : ℕ) → FindsIn s window found visited → Appends (rows_of s) (touches_hull rect) [] found
    searched found visited finds = record {
      each = λ test.
          let one = count_alike test (λ r. admits_row r && test r) found (λ r h. sym (ap (λ (b : Bool). b && test r) (all-admitted found finds.admitted r h))) in
          let two = finds.each (λ r. admits_row r && test r) (λ r e. only-admitted r (test r) e) in
          let three = count_alike (λ r. admits_row r && test r) (λ r. touches_hull rect r && test r) (rows_of s)
          (λ r h. ap (λ (b : Bool). b && test r) (touched r h)) in
          omega (arith, one, two, three);
    }

    pub appended : (found old new : List (Row D)) (visited : ℕ) → FindsIn s window found visited → new ≡ old ++ filter (is_apart except) found →
        Appends (rows_of s) (is_new (Some rect) except) old new
    appended found old new visited finds is = record {
      each = λ test.
          let one = ap (count_by test) is ∙ count-append test old (filter (is_apart except) found) in
          let two = count_kept (is_apart except) test found in
          let three = count_alike (λ r. is_apart except r && test r) (λ r. admits_row r && (is_apart except r && test r)) found
          (λ r h. sym (ap (λ (b : Bool). b && (is_apart except r && test r)) (all-admitted found finds.admitted r h))) in
          let four = finds.each (λ r. admits_row r && (is_apart except r && test r)) (λ r e. only-admitted r (is_apart except r && test r) e) in
          let five = count_alike (λ r. admits_row r && (is_apart except r && test r)) (λ r. is_new (Some rect) except r && test r) (rows_of s)
          (λ r h. ap (λ (b : Bool). b && (is_apart except r && test r)) (touched r h) ∙ and-three (touch rect r.rect) (is_apart except r) (test r)) in
          omega (arith, one, two, three, four, five);
    }

  pub appended-none : (rows old : List (Row D)) (except : Option (List Interval)) → Appends rows (is_new None except) old old
  appended-none rows old except = record { each = λ test. omega (arith, none test rows) }
    where
      none : (test : Row D → Bool) (rs : List (Row D)) → count_by (λ r. is_new None except r && test r) rs ≡ 0
      none test rs = count-none test rs

  -- ---- what was found by rising id
  pub found-sorted : (s : ShadowLists D) → IsInShape s → (pass : Row D → Bool) (found sorted : List (Row D)) → Appends (rows_of s) pass [] found →
      IsPermutation found sorted → IsSortedByKey id_of int_cmp sorted → sorted ≡ filter pass (by_id (rows_of s))
  found-sorted s shape pass found sorted so moved in_order =
      same_counts id_of same_row row-itself row-same sorted (filter pass (by_id (rows_of s))) (sorted_climbs id_of sorted in_order)
      (rises-filter id_of pass (by_id (rows_of s)) (rises-by_id (rows_of s)))
      (λ test.
      let a = so.each test in
      let b = count_permuted test found sorted moved in
      let c = by_id-counts s shape (λ r. pass r && test r) in
      let d = count_kept pass test (by_id (rows_of s)) in
      omega (arith, a, b, c, d))

  -- of what touches a box around two boxes, that of which a window is told
  pub told-kept : (rows found : List (Row D)) (hull : List Interval) (was is : Option (List Interval)) → Encloses was is hull → Appends rows (touches_hull hull) [] found →
      Appends rows (is_told was is) [] (filter (is_told was is) found)
  told-kept rows found hull was is inside so = record {
    each = λ test.
        let one = count_kept (is_told was is) test found in
        let two = so.each (λ r. is_told was is r && test r) in
        let three = count_alike (λ r. touches_hull hull r && (is_told was is r && test r)) (λ r. is_told was is r && test r) rows
        (λ r h. inside-both (touches_hull hull r) (is_told was is r) (test r)
        (λ e. inside r.rect (told-either (touches was r.rect) (touches is r.rect) e))) in
        omega (arith, one, two, three);
  }

  -- ---- two searches
  pub found-either : (s : ShadowLists D) → IsInShape s → (was is : Option (List Interval)) (first both sorted : List (Row D)) →
      Appends (rows_of s) (is_new was None) [] first → Appends (rows_of s) (is_new is was) first both → IsPermutation both sorted → IsSortedByKey id_of int_cmp sorted →
      sorted ≡ filter (touches_either was is) (by_id (rows_of s))
  found-either s shape was is first both sorted one two moved in_order =
      same_counts id_of same_row row-itself row-same sorted (filter (touches_either was is) (by_id (rows_of s))) (sorted_climbs id_of sorted in_order)
      (rises-filter id_of (touches_either was is) (by_id (rows_of s)) (rises-by_id (rows_of s)))
      (λ test.
      let a = one.each test in
      let b = two.each test in
      let c = count_permuted test both sorted moved in
      let d = count-either (λ r. is_new was None r && test r) (λ r. is_new is was r && test r) (λ r. touches_either was is r && test r) (rows_of s)
      (λ r. either-split (touches was r.rect) (touches is r.rect) (test r)) in
      let e = by_id-counts s shape (λ r. touches_either was is r && test r) in
      let f = count_kept (touches_either was is) test (by_id (rows_of s)) in
      omega (arith, a, b, c, d, e, f))
