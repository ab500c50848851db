-- How many pairs pass a test: sums over lists that are cut, filtered or mapped.
use Rattle.std.proofs.Common.{◌≡◌, ℕ, ◌+◌, ◌*◌, ◌≤◌, Bool, true, false, cond, List, [], ◌∷◌, ◌++◌, map, get_or, arith, refl, ap, sym, ◌∙◌, inl, inr}
use Rattle.std.specs.List.{All, count_by, sum_by, filter, flat_map}
use Rattle.std.proofs.lemmas.Bool.{cases_Bool}
use Rattle.std.proofs.lemmas.List.{map-append}
use Rattle.std.proofs.lemmas.List.Concat.{flat_map-append, flat_map_single}
use Rattle.std.proofs.Math.Path.{fun_ext}
use Rattle.std.proofs.lemmas.List.Elements.{All-nil, All-cons, All-head, All-tail, filter-append}
use Rattle.std.proofs.lemmas.List.Sums.{sum_by-cons}
use Rattle.rt_box.specs.declared.interval.Interval.{Interval}
use Rattle.rt_box.specs.Rect.{Holds}
use Rattle.rt_box.proofs.Holding.{Holds_refl}
use Rattle.rt_tree_node.specs.declared.cell.Cell.{Cell}
use Rattle.rt_tree_walk.specs.declared.searching.Row.{Row}
use Rattle.rt_tree_walk.specs.Search.{row_of}
use Rattle.rt_tree_node.proofs.Counts.{count-append, count-cons}
use Rattle.rt_tree_walk.proofs.Judging.{count-joined}
use Rattle.rt_tree_join.specs.declared.joining.Pair.{Pair}
use Rattle.rt_tree_join.specs.Join.{touch, pair_of, pairs_with, touching_pairs}
use Rattle.rt_tree_join.specs.Due.{pair_cells, pairs_of_row, pairs_of_rows}
use Rattle.rt_tree_join.specs.declared.due.Side.TheVariants.{Left, Right}
use Rattle.rt_tree_join.proofs.Boxes.{touch-apart, touch-apart_swapped, touch-same}

-- ---- sums
module _ {X : Type 0} (f : X → ℕ) (p : X → Bool) where
  kept : (x : X) (xs : List X) → p x ≡ true → sum_by f (filter p (x ∷ xs)) ≡ f x + sum_by f (filter p xs)
  kept x xs e = ap (λ b. sum_by f (cond b (x ∷ filter p xs) (filter p xs))) e ∙ sum_by-cons f x (filter p xs)

  left_out : (x : X) (xs : List X) → p x ≡ false → sum_by f (filter p (x ∷ xs)) ≡ sum_by f (filter p xs)
  left_out x xs e = ap (λ b. sum_by f (cond b (x ∷ filter p xs) (filter p xs))) e

  -- what is left out counts nothing
  pub sum-filtered : (xs : List X) → All (λ x. p x ≡ false → f x ≡ 0) xs → sum_by f (filter p xs) ≡ sum_by f xs
  sum-filtered [] all = refl
  sum-filtered (x ∷ xs) all =
      let rest = sum-filtered xs (All-tail (λ y. p y ≡ false → f y ≡ 0) x xs all) in
      elim (cases_Bool (p x)) [
        | inl e ↦ omega (arith, kept x xs e, sum_by-cons f x xs, rest)
        | inr e ↦ omega (arith, left_out x xs e, sum_by-cons f x xs, rest, All-head (λ y. p y ≡ false → f y ≡ 0) x xs all e)
      ]

  pub sum-filter_le : (xs : List X) → sum_by f (filter p xs) ≤ sum_by f xs
  sum-filter_le [] = omega arith
  sum-filter_le (x ∷ xs) = elim (cases_Bool (p x)) [
    | inl e ↦ omega (arith, kept x xs e, sum_by-cons f x xs, sum-filter_le xs)
    | inr e ↦ omega (arith, left_out x xs e, sum_by-cons f x xs, sum-filter_le xs)
  ]

pub sum-mapped : {X Y : Type 0} (f : Y → ℕ) (g : X → Y) (xs : List X) → sum_by f (map g xs) ≡ sum_by (λ x. f (g x)) xs
sum-mapped f g [] = refl
sum-mapped f g (x ∷ xs) = omega (arith, sum_by-cons f (g x) (map g xs), sum_by-cons (λ y. f (g y)) x xs, sum-mapped f g xs)

pub sum-scaled : {X : Type 0} (f : X → ℕ) (m : ℕ) (xs : List X) → sum_by (λ x. f x * m) xs ≡ sum_by f xs * m
sum-scaled f m [] = omega arith
sum-scaled f m (x ∷ xs) =
    let split : sum_by f (x ∷ xs) * m ≡ f x * m + sum_by f xs * m = ap (λ n. n * m) (sum_by-cons f x xs) ∙ omega arith in
    omega (arith, sum_by-cons (λ y. f y * m) x xs, split, sum-scaled f m xs)

pub sum-scaled_left : {X : Type 0} (f : X → ℕ) (m : ℕ) (xs : List X) → sum_by (λ x. m * f x) xs ≡ m * sum_by f xs
sum-scaled_left f m [] = omega arith
sum-scaled_left f m (x ∷ xs) =
    let split : m * sum_by f (x ∷ xs) ≡ m * f x + m * sum_by f xs = ap (λ n. m * n) (sum_by-cons f x xs) ∙ omega arith in
    omega (arith, sum_by-cons (λ y. m * f y) x xs, split, sum-scaled_left f m xs)

-- a number that is added up where lists are joined
pub additive : {X Y : Type 0} (n : List Y → ℕ) → n [] ≡ 0 → ((a b : List Y) → n (a ++ b) ≡ n a + n b) → (f : X → List Y) (xs : List X) →
    n (flat_map f xs) ≡ sum_by (λ x. n (f x)) xs
additive n none joined f [] = none
additive n none joined f (x ∷ xs) =
    omega (arith, joined (f x) (flat_map f xs), sum_by-cons (λ y. n (f y)) x xs, additive n none joined f xs)

-- ---- pairs of rows
module _ {D : ℕ} where
  pub left-joined : (test : Pair → Bool) (others a b : List (Row D)) →
      count_by test (touching_pairs (a ++ b) others) ≡ count_by test (touching_pairs a others) + count_by test (touching_pairs b others)
  left-joined test others a b =
      ap (count_by test) (flat_map-append (pairs_with others) a b) ∙ count-append test (touching_pairs a others) (touching_pairs b others)

  pub with-joined : (a b : List (Row D)) (r : Row D) → pairs_with (a ++ b) r ≡ pairs_with a r ++ pairs_with b r
  with-joined a b r =
      let q : Row D → Bool = λ s. touch r.rect s.rect in
      ap (map (pair_of r)) (filter-append q a b) ∙ map-append (pair_of r) (filter q a) (filter q b)

  pub right-joined : (test : Pair → Bool) (rows a b : List (Row D)) →
      count_by test (touching_pairs rows (a ++ b)) ≡ count_by test (touching_pairs rows a) + count_by test (touching_pairs rows b)
  right-joined test [] a b = refl
  right-joined test (r ∷ rs) a b =
      let here = ap (count_by test) (with-joined a b r) ∙ count-append test (pairs_with a r) (pairs_with b r) in
      omega (
        arith,
        here,
        count-append test (pairs_with (a ++ b) r) (touching_pairs rs (a ++ b)),
        count-append test (pairs_with a r) (touching_pairs rs a),
        count-append test (pairs_with b r) (touching_pairs rs b),
        right-joined test rs a b,
      )

  pub right-none : (rows : List (Row D)) → touching_pairs rows [] ≡ []
  right-none [] = refl
  right-none (r ∷ rs) = right-none rs

  module _ (a b : List Interval) (never : (r s : List Interval) → Holds a r → Holds b s → touch r s ≡ false) where
    none-with : (others : List (Row D)) → All (λ s. Holds b s.rect) others → (r : Row D) → Holds a r.rect → pairs_with others r ≡ []
    none-with [] all r h = refl
    none-with (s ∷ ss) all r h =
        let rest = filter (λ x. touch r.rect x.rect) ss in
        ap (λ v. map (pair_of r) (cond v (s ∷ rest) rest)) (never r.rect s.rect h (All-head (λ x. Holds b x.rect) s ss all))
        ∙ none-with ss (All-tail (λ x. Holds b x.rect) s ss all) r h

    -- rows in two boxes of which no two touch
    pub pairs-apart : (rows others : List (Row D)) → All (λ r. Holds a r.rect) rows → All (λ s. Holds b s.rect) others → touching_pairs rows others ≡ []
    pairs-apart [] others in_a in_b = refl
    pairs-apart (r ∷ rs) others in_a in_b =
        ap (λ l. l ++ touching_pairs rs others) (none-with others in_b r (All-head (λ x. Holds a x.rect) r rs in_a))
        ∙ pairs-apart rs others (All-tail (λ x. Holds a x.rect) r rs in_a) in_b

  -- ---- pairs of leaves' cells
  pub row-pairs : (others : List (Cell D)) (c : Cell D) → pairs_with (map row_of others) (row_of c) ≡ pairs_of_row Left others c
  row-pairs [] c = refl
  row-pairs (e ∷ es) c = by (touch c.rect e.rect) (row-pairs es c)
    where
      by : (b : Bool) → pairs_with (map row_of es) (row_of c) ≡ pairs_of_row Left es c →
          map (pair_of (row_of c)) (cond b (row_of e ∷ filter (λ s. touch c.rect s.rect) (map row_of es)) (filter (λ s. touch c.rect s.rect) (map row_of es)))
          ≡ map (pair_cells Left c) (cond b (e ∷ filter (λ x. touch c.rect x.rect) es) (filter (λ x. touch c.rect x.rect) es))
      by true rest = ap (λ l. pair_cells Left c e ∷ l) rest
      by false rest = rest

  leaf-pairs : (others cells : List (Cell D)) → touching_pairs (map row_of cells) (map row_of others) ≡ pairs_of_rows Left others cells
  leaf-pairs others [] = refl
  leaf-pairs others (c ∷ cs) =
      ap (λ l. l ++ touching_pairs (map row_of cs) (map row_of others)) (row-pairs others c)
      ∙ ap (λ l. pairs_of_row Left others c ++ l) (leaf-pairs others cs)

  -- the left rows that touch the box around the right leaf
  pub left-counted : (test : Pair → Bool) (rect : List Interval) (cells others : List (Cell D)) → All (λ s. Holds rect s.rect) (map row_of others) →
      count_by test (pairs_of_rows Left others (filter (λ c. touch rect c.rect) cells)) ≡ count_by test (touching_pairs (map row_of cells) (map row_of others))
  left-counted test rect cells others inside =
      let p : Cell D → Bool = λ c. touch rect c.rect in
      let f : Cell D → ℕ = λ c. count_by test (pairs_of_row Left others c) in
      let apart : (c : Cell D) → p c ≡ false → f c ≡ 0 = λ c e.
      ap (count_by test) (sym (row-pairs others c) ∙ none-with c.rect rect (λ r s h k. touch-apart_swapped c.rect rect r s h k e) (map row_of others) inside (row_of c) (Holds_refl c.rect)) in
      count-joined test (pairs_of_row Left others) (filter p cells)
      ∙ sum-filtered f p cells (λ i d h. apart (get_or cells i d))
      ∙ sym (count-joined test (pairs_of_row Left others) cells)
      ∙ ap (count_by test) (sym (leaf-pairs others cells))

  -- the left rows that touch one right row
  column : (test : Pair → Bool) (cells : List (Cell D)) (e : Cell D) →
      count_by test (touching_pairs (map row_of cells) (row_of e ∷ [])) ≡ count_by test (pairs_of_row Right cells e)
  column test [] e = refl
  column test (c ∷ cs) e =
      by (touch c.rect e.rect) (column test cs e)
      ∙ ap (λ b. count_by test (map (pair_cells Right e) (cond b (c ∷ filter (λ x. touch e.rect x.rect) cs) (filter (λ x. touch e.rect x.rect) cs)))) (touch-same c.rect e.rect)
    where
      by : (b : Bool) → count_by test (touching_pairs (map row_of cs) (row_of e ∷ [])) ≡ count_by test (pairs_of_row Right cs e) →
          count_by test (map (pair_of (row_of c)) (cond b (row_of e ∷ []) []) ++ touching_pairs (map row_of cs) (row_of e ∷ []))
          ≡ count_by test (map (pair_cells Right e) (cond b (c ∷ filter (λ x. touch e.rect x.rect) cs) (filter (λ x. touch e.rect x.rect) cs)))
      by true rest =
          omega (
            arith,
            count-cons test (pair_of (row_of c) (row_of e)) (touching_pairs (map row_of cs) (row_of e ∷ [])),
            count-cons test (pair_cells Right e c) (pairs_of_row Right cs e),
            rest,
          )
      by false rest = rest

  -- the right rows that touch the box around the left leaf
  pub right-counted : (test : Pair → Bool) (rect : List Interval) (cells others : List (Cell D)) → All (λ r. Holds rect r.rect) (map row_of cells) →
      count_by test (pairs_of_rows Right cells (filter (λ e. touch rect e.rect) others)) ≡ count_by test (touching_pairs (map row_of cells) (map row_of others))
  right-counted test rect cells others inside =
      let p : Cell D → Bool = λ e. touch rect e.rect in
      let f : Cell D → ℕ = λ e. count_by test (pairs_of_row Right cells e) in
      let n : List (Row D) → ℕ = λ ss. count_by test (touching_pairs (map row_of cells) ss) in
      let apart : (e : Cell D) → p e ≡ false → f e ≡ 0 = λ e none.
      sym (column test cells e)
      ∙ ap (count_by test) (pairs-apart rect e.rect (λ r s h k. touch-apart rect e.rect r s h k none) (map row_of cells) (row_of e ∷ []) inside
      (All-cons (λ (s : Row D). Holds e.rect s.rect) (row_of e) [] (Holds_refl e.rect) (All-nil (λ (s : Row D). Holds e.rect s.rect)))) in
      count-joined test (pairs_of_row Right cells) (filter p others)
      ∙ sum-filtered f p others (λ i d h. apart (get_or others i d))
      ∙ ap (λ (g : Cell D → ℕ). sum_by g others) (fun_ext (λ e. sym (column test cells e)))
      ∙ sym (additive n (ap (count_by test) (right-none (map row_of cells))) (right-joined test (map row_of cells)) (λ (e : Cell D). row_of e ∷ []) others)
      ∙ ap n (flat_map_single row_of others)
