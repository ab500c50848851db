-- Positions of cells: all of them, some of them, and the others.
use Rattle.std.proofs.Common.{◌≡◌, ◌≢◌, ℕ, ◌+◌, ◌-◌, ◌<◌, ◌≤◌, Bool, cond, List, [], ◌∷◌, ◌++◌, length, get_or, map, take, reverse, count_by, nat_eq, eq-eqb, ne_eqb, arith, refl, ap, ◌∙◌, sym, subst, inl, inr}
use Rattle.std.specs.List.{All, range_with_len, remove}
use Rattle.std.specs.List.Sorted.{IsPermutation}
use Rattle.std.proofs.lemmas.Bool.{cases_lt}
use Rattle.std.proofs.lemmas.List.{get_or_default, map-id, map_more, map_push, take_more, get_or-reverse, get_or_read, length-map, length-reverse, length-append, length-drop, map-append}
use Rattle.std.proofs.lemmas.List.Edits.{length-remove, get_or-remove_below, get_or-remove_above}
use Rattle.std.proofs.lemmas.List.FromFn.{map-range_with_len_more, fill_by_all, length-range_with_len, get_or-range_with_len}
use Rattle.std.proofs.lemmas.List.Sums.{sum_by_more_le, sum_by-take-drop}
use Rattle.std.proofs.lemmas.List.Sorted.{IsPermutation-more, IsPermutation-map, IsPermutation-trans, IsPermutation-append_comm, IsPermutation-append_right, IsPermutation-reverse, All-permutation, length_permutation, sum_by-IsPermutation}
use Rattle.rt_box.specs.declared.interval.Interval.{Interval}
use Rattle.rt_box.specs.Capacity.{reinsertion_share}
use Rattle.rt_tree_choice.specs.Sorting.{sort_by}
use Rattle.rt_tree_choice.specs.Reinsertion.{by_distance, farthest_positions}
use Rattle.rt_tree_choice.proofs.Sorted.{sort-permutes, length-sort}
use Rattle.rt_tree_node.specs.declared.cell.Cell.{Cell}
use Rattle.rt_tree_node.specs.Places.{picked, rects, no_cell, pending_at}
use Rattle.rt_tree_place.specs.Rules.{IsRisingList, ReInserts}
use Rattle.rt_tree_node.proofs.Counts.{count-append, count-zero}

pub range-more : (i : ℕ) → range_with_len 0 (i + 1) ≡ range_with_len 0 i ++ i ∷ []
range-more i = sym (map-id (range_with_len 0 (i + 1))) ∙ map-range_with_len_more (λ x. x) 0 i i (omega arith) ∙ ap (λ xs. xs ++ i ∷ []) (map-id (range_with_len 0 i))

-- the next position is among those left
pub still-left : (len i at : ℕ) (positions left : List ℕ) → i < length positions →
    ((x : ℕ) → count_by (λ p. nat_eq p x) positions ≤ count_by (λ p. nat_eq p x) (range_with_len 0 len)) →
    IsPermutation (range_with_len 0 len) (take i positions ++ left) →
    ((k : ℕ) → k < at → get_or left k 0 ≢ get_or positions i 0) → at < length left
still-left len i at positions left within distinct moved first = elim (cases_lt at (length left)) [
  | inl below ↦ below
  | inr past ↦
      let x = get_or positions i 0 in
      let is : ℕ → Bool = λ p. nat_eq p x in
      let none : count_by is left ≡ 0 = count-zero is left (λ k d in_left. ne_eqb (get_or left k d) x (λ e. first k (omega arith) (get_or_default left k 0 d in_left ∙ e))) in
      let all = sum_by-IsPermutation (λ p. cond (is p) 1 0) (range_with_len 0 len) (take i positions ++ left) moved in
      let both = count-append is (take i positions) left in
      let more : count_by is (take i positions) + cond (is x) 1 0 ≤ count_by is positions = sum_by_more_le (λ p. cond (is p) 1 0) positions i 0 within in
      let one : ◌≡◌ {A = ℕ} (cond (is x) 1 0) 1 = ap (λ b. cond b 1 0) (eq-eqb x x refl) in
      let few = distinct x in
      absurd (omega (arith, none, all, both, more, one, few))
]

pub others-more : (range positions left : List ℕ) (i at : ℕ) → i < length positions → at < length left → get_or left at 0 ≡ get_or positions i 0 →
    IsPermutation range (take i positions ++ left) → IsPermutation range (take (i + 1) positions ++ remove left at)
others-more range positions left i at within in_left same moved =
    let x = get_or positions i 0 in
    let read : x ≡ get_or left at x = sym same ∙ get_or_default left at 0 x in_left in
    subst (λ xs. IsPermutation range (xs ++ remove left at)) (sym (take_more positions i 0 within)) (IsPermutation-more range (take i positions) left at x in_left read moved)

-- all positions rise, and what is left of rising ones
pub rising-range : (len : ℕ) → IsRisingList (range_with_len 0 len)
rising-range len i j less within =
    let long = length-range_with_len 0 len in
    let a = get_or-range_with_len 0 len i 0 (omega arith) in
    let b = get_or-range_with_len 0 len j 0 (omega arith) in
    omega arith

pub rising-remove : (xs : List ℕ) (at : ℕ) → at < length xs → IsRisingList xs → IsRisingList (remove xs at)
rising-remove xs at here rising i j less within =
    let long = length-remove xs at here in
    elim (cases_lt j at) [
      | inl low ↦ omega (arith, get_or-remove_below xs at 0 i (omega arith) here, get_or-remove_below xs at 0 j low here, rising i j less (omega arith))
      | inr high ↦ elim (cases_lt i at) [
        | inl below ↦
            omega (arith, get_or-remove_below xs at 0 i below here, get_or-remove_above xs at 0 j (omega arith) here, rising i (j + 1) (omega arith) (omega arith))
        | inr above ↦
            omega (arith, get_or-remove_above xs at 0 i (omega arith) here, get_or-remove_above xs at 0 j (omega arith) here, rising (i + 1) (j + 1) (omega arith) (omega arith))
      ]
    ]

module _ {D : ℕ} where
  -- one more of the cells that wait
  pub waits-more : (cells : List (Cell D)) (positions : List ℕ) (l k : ℕ) (c : Cell D) → k < length positions → All (λ p. p < length cells) positions →
      c ≡ get_or cells (get_or positions (length positions - 1 - k) 0) c →
      pending_at l (picked cells (take (k + 1) (reverse positions))) ≡ pending_at l (picked cells (take k (reverse positions))) ++ record { level = l; cell = c } ∷ []
  waits-more cells positions l k c within all read =
      let f : ℕ → Cell D = λ p. get_or cells p no_cell in
      let last = get_or positions (length positions - 1 - k) 0 in
      let in_cells : last < length cells = all (length positions - 1 - k) 0 (omega arith) in
      let step : picked cells (take (k + 1) (reverse positions)) ≡ picked cells (take k (reverse positions)) ++ c ∷ [] =
      map_more f (reverse positions) k 0 (omega (arith, length-reverse positions))
      ∙ ap (λ p. picked cells (take k (reverse positions)) ++ f p ∷ []) (get_or-reverse positions k 0 within)
      ∙ ap (λ q. picked cells (take k (reverse positions)) ++ q ∷ []) (sym (get_or_read cells last c in_cells read no_cell)) in
      ap (pending_at l) step ∙ map_push (λ q. record { level = l; cell = q }) (picked cells (take k (reverse positions))) c

  pub picked-all : (cells : List (Cell D)) → picked cells (range_with_len 0 (length cells)) ≡ cells
  picked-all cells = sym (fill_by_all (λ p. get_or cells p no_cell) cells (length cells) no_cell refl (λ k below. refl))

  -- the cells by position, in two groups
  pub picked-parted : (cells : List (Cell D)) (far near : List ℕ) → IsPermutation (range_with_len 0 (length cells)) (far ++ near) →
      IsPermutation cells (picked cells near ++ picked cells (reverse far))
  picked-parted cells far near moved =
      let f : ℕ → Cell D = λ p. get_or cells p no_cell in
      let mapped = IsPermutation-map f (range_with_len 0 (length cells)) (far ++ near) moved in
      let parted : IsPermutation cells (picked cells far ++ picked cells near) =
      subst (λ xs. IsPermutation cells xs) (map-append f far near) (subst (λ xs. IsPermutation xs (map f (far ++ near))) (picked-all cells) mapped) in
      let back = IsPermutation-map f far (reverse far) (IsPermutation-reverse far) in
      IsPermutation-trans cells (picked cells far ++ picked cells near) (picked cells near ++ picked cells (reverse far)) parted
      (IsPermutation-trans (picked cells far ++ picked cells near) (picked cells near ++ picked cells far) (picked cells near ++ picked cells (reverse far))
      (IsPermutation-append_comm (picked cells far) (picked cells near))
      (IsPermutation-append_right (picked cells near) (picked cells far) (picked cells (reverse far)) back))

-- positions in two groups lie within
pub parted-within : (len : ℕ) (far near : List ℕ) → IsPermutation (range_with_len 0 len) (far ++ near) → All (λ p. p < len) (far ++ near)
parted-within len far near moved =
    All-permutation (λ p. p < len) (range_with_len 0 len) (far ++ near) moved
    (λ k d within. let long = length-range_with_len 0 len in let is = get_or-range_with_len 0 len k d (omega arith) in omega arith)

pub parted-lengths : (len : ℕ) (far near : List ℕ) → IsPermutation (range_with_len 0 len) (far ++ near) → length far + length near ≡ len
parted-lengths len far near moved =
    omega (arith, length_permutation (range_with_len 0 len) (far ++ near) moved, length-append far near, length-range_with_len 0 len)

-- the farthest cells are listed once each
pub far-distinct : (boxes : List (List Interval)) (M x : ℕ) →
    count_by (λ p. nat_eq p x) (farthest_positions boxes M) ≤ count_by (λ p. nat_eq p x) (range_with_len 0 (length boxes))
far-distinct boxes M x =
    let order = sort_by (by_distance boxes) (range_with_len 0 (length boxes)) in
    let f : ℕ → ℕ = λ p. cond (nat_eq p x) 1 0 in
    let all = sum_by-IsPermutation f (range_with_len 0 (length boxes)) order (sort-permutes (by_distance boxes) (range_with_len 0 (length boxes))) in
    let parts = sum_by-take-drop f order (length boxes - reinsertion_share M) in
    omega (arith, all, parts)

pub length-far : (boxes : List (List Interval)) (M : ℕ) → reinsertion_share M ≤ length boxes → length (farthest_positions boxes M) ≡ reinsertion_share M
length-far boxes M few =
    let order = sort_by (by_distance boxes) (range_with_len 0 (length boxes)) in
    omega (arith, length-drop (length boxes - reinsertion_share M) order, length-sort (by_distance boxes) (range_with_len 0 (length boxes)), length-range_with_len 0 (length boxes))

module _ {D : ℕ} (M : ℕ) (cells near far : List (Cell D)) (chosen : ReInserts M cells near far) where
  -- the cells that stay and those that leave are the cells
  pub reinserts-moved : IsPermutation cells (near ++ far)
  reinserts-moved =
      let leaving = farthest_positions (rects cells) M in
      subst (λ xs. IsPermutation cells (near ++ xs)) (sym chosen.leave)
      (subst (λ xs. IsPermutation cells (xs ++ picked cells (reverse leaving))) (sym chosen.stay) (picked-parted cells leaving chosen.kept chosen.parted))

  pub reinserts-share : reinsertion_share M ≤ length cells → length far ≡ reinsertion_share M
  reinserts-share few =
      let leaving = farthest_positions (rects cells) M in
      let long = length-map cells (λ c. c.rect) in
      ap length chosen.leave ∙ length-map (reverse leaving) (λ p. get_or cells p no_cell) ∙ length-reverse leaving ∙ length-far (rects cells) M (omega arith)
