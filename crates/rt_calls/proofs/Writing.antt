-- Numbers written into a buffer one by one.
use Rattle.std.proofs.Common.{◌≡◌, ℕ, ◌+◌, ◌*◌, ◌<◌, ◌≤◌, Fits, w64, ℤ, pos, List, [], ◌∷◌, ◌++◌, length, get_or, set, take, drop, arith, sym, ap, subst, ◌∙◌, mul-le-mul_right}
use Rattle.std.proofs.lemmas.List.{append_assoc, length-append, take_more, take_more_set, drop-set-lt, drop-drop, flat_map_more}
use Rattle.rt_tree_walk.specs.declared.searching.Row.{Row}
use Rattle.rt_calls.specs.Numbers.{numbers_of, box_numbers}

pub front_more : (old b ns : List ℤ) (at k : ℕ) (v : ℤ) → k < length ns → at + k < length b → take (at + k) b ≡ take at old ++ take k ns →
    v ≡ get_or ns k (pos 0) → take (at + (k + 1)) (set b (at + k) v) ≡ take at old ++ take (k + 1) ns
front_more old b ns at k v within room front is =
    let one : at + (k + 1) ≡ at + k + 1 = omega arith in
    ap (λ n. take n (set b (at + k) v)) one ∙ take_more_set b (at + k) v room ∙ ap (λ l. l ++ v ∷ []) front
    ∙ append_assoc (take at old) (take k ns) (v ∷ []) ∙ ap (λ w. take at old ++ (take k ns ++ w ∷ [])) is ∙ ap (λ l. take at old ++ l) (sym (take_more ns k (pos 0) within))

pub back_more : (old b : List ℤ) (at k : ℕ) (v : ℤ) → drop (at + k) b ≡ drop (at + k) old → drop (at + (k + 1)) (set b (at + k) v) ≡ drop (at + (k + 1)) old
back_more old b at k v back =
    let one : at + k + 1 ≡ at + (k + 1) = omega arith in
    drop-set-lt (at + (k + 1)) b (at + k) v (omega arith) ∙ ap (λ n. drop n b) (sym one) ∙ sym (drop-drop 1 (at + k) b)
    ∙ ap (drop 1) back ∙ drop-drop 1 (at + k) old ∙ ap (λ n. drop n old) one

-- what is written behind what was written
pub front_then : (old one two ns ms : List ℤ) (at : ℕ) → take (at + length ns) one ≡ take at old ++ ns →
    take (at + length ns + length ms) two ≡ take (at + length ns) one ++ ms → take (at + length (ns ++ ms)) two ≡ take at old ++ (ns ++ ms)
front_then old one two ns ms at first second =
    let long : at + length (ns ++ ms) ≡ at + length ns + length ms = omega (arith, length-append ns ms) in
    ap (λ n. take n two) long ∙ second ∙ ap (λ l. l ++ ms) first ∙ append_assoc (take at old) ns ms

pub back_then : (old one two ns ms : List ℤ) (at : ℕ) → drop (at + length ns) one ≡ drop (at + length ns) old →
    drop (at + length ns + length ms) two ≡ drop (at + length ns + length ms) one → drop (at + length (ns ++ ms)) two ≡ drop (at + length (ns ++ ms)) old
back_then old one two ns ms at first second =
    let long : at + length (ns ++ ms) ≡ at + length ns + length ms = omega (arith, length-append ns ms) in
    ap (λ n. drop n two) long ∙ second ∙ sym (drop-drop (length ms) (at + length ns) one) ∙ ap (drop (length ms)) first
    ∙ drop-drop (length ms) (at + length ns) old ∙ ap (λ n. drop n old) (sym long)

-- the numbers of one row more
pub boxes_more : {D : ℕ} (rows : List (Row D)) (k : ℕ) (d row : Row D) → k < length rows → row ≡ get_or rows k d →
    box_numbers (take (k + 1) rows) ≡ box_numbers (take k rows) ++ numbers_of row.rect
boxes_more rows k d row within is =
    ap box_numbers (take_more rows k d within) ∙ sym (flat_map_more (λ r. numbers_of r.rect) [] (take k rows) (get_or rows k d))
    ∙ ap (λ r. box_numbers (take k rows) ++ numbers_of r.rect) (sym is)

-- one more time
pub times_more : (i n : ℕ) → (i + 1) * n ≡ i * n + n
times_more i n = omega arith

-- Pieces of one width that fill a list: there is room for each, and none is behind the last. Stated over numbers, so that no goal of
-- the code is a search over all that is known there.
pub none_yet : (width : ℕ) → 0 ≡ 0 * width
none_yet width = omega arith

pub piece_within : (i n width size : ℕ) → size ≡ n * width → i < n → (i + 1) * width ≤ size
piece_within i n width size long low =
    let more : i + 1 ≤ n = omega arith in
    subst (λ (s : ℕ). (i + 1) * width ≤ s) (sym long) (mul-le-mul_right width more)

pub from_within : (i n width from size : ℕ) → from ≡ i * width → size ≡ n * width → i < n → from + width ≤ size
from_within i n width from size is long low =
    subst (λ (f : ℕ). f + width ≤ size) (sym is) (subst (λ (k : ℕ). k ≤ size) (times_more i width) (piece_within i n width size long low))

pub none_behind : (i n width from size : ℕ) → from ≡ i * width → size ≡ n * width → n ≤ i → size ≤ from
none_behind i n width from size is long end =
    subst (λ (f : ℕ). size ≤ f) (sym is) (subst (λ (s : ℕ). s ≤ i * width) (sym long) (mul-le-mul_right width end))

pub twice_fits : (axes : ℕ) → axes ≤ 3 → Fits w64 (2 * axes)
twice_fits axes few = record { fits = omega arith }
