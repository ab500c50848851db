-- Where a text may be cut: before or after a byte of ASCII, and at its end.
use Rattle.std.proofs.Common.{◌≡◌, ℕ, ◌<◌, ◌≤◌, ◌+◌, refl, [], ◌∷◌, ◌⊎◌, inl, inr, Bool, true, false, length, slice_index, drop, length-drop, get_or-drop, ⊎_elim, arith}
use Rattle.std.proofs.lemmas.Bool.{cases_lt}
use Rattle.std.proofs.lemmas.List.{get_or_past}
use Rattle.std.proofs.lemmas.Bool.Decides.{nat_tests}
use Rattle.std.proofs.lemmas.List.Sums.{prefix_len_stops, prefix_len-le-length}
use Rattle.std.proofs.lemmas.Str.{IsCharBoundary-before_ascii, IsCharBoundary-after_ascii, IsCharBoundary-start, IsCharBoundary-end, IsCharBoundary-from_rest}
use Rattle.std.specs.Char.{is_ascii_digit}
use Rattle.std.specs.List.{prefix_len}
use Rattle.std.specs.Str.{IsCharBoundary, IsUtf8}
use Rattle.rt_sql.specs.Lex.{is_gap}
use Rattle.rt_sql_cut.specs.Text.{is_white}
use Rattle.rt_sql.specs.Token.{Text, begins_word, is_in_word, is_in_line}

pub ascii_from_white : (b : ℕ) → is_white b ≡ true → b < 128
ascii_from_white b h = grind (arith, nat_tests)

pub ascii_from_digit : (b : ℕ) → is_ascii_digit b ≡ true → b < 128
ascii_from_digit b h = grind (arith, nat_tests)

pub ascii_outside_word : (b : ℕ) → is_in_word b ≡ false → b < 128
unfolding is_in_word
ascii_outside_word b h = grind (arith, nat_tests)

pub ascii_before_word : (b : ℕ) → begins_word b ≡ false → b < 128
unfolding begins_word
ascii_before_word b h = grind (arith, nat_tests)

pub cut_at_front : (p : ℕ → Bool) (z : Text) → ((b : ℕ) → p b ≡ false → b < 128) → IsCharBoundary z (prefix_len p z)
cut_at_front p z ascii =
    ⊎_elim
    (λ (h : prefix_len p z < length z). IsCharBoundary-before_ascii z (prefix_len p z) h (ascii _ (prefix_len_stops p z 0 h)))
    (λ h. let e : prefix_len p z ≡ length z = omega (arith, prefix_len-le-length p z) in rw e (IsCharBoundary-end z))
    (cases_lt (prefix_len p z) (length z))

pub cut_after_first : (z : Text) → IsUtf8 z → 0 < length z → slice_index z 0 < 128 → IsCharBoundary z 1
cut_after_first z u some h = IsCharBoundary-after_ascii z 0 u some h

pub word_goes_on : (b : ℕ) → begins_word b ≡ true → is_in_word b ≡ true
unfolding begins_word is_in_word
word_goes_on b h = grind (arith, nat_tests)

no_word_at_end : begins_word 0 ≡ true → ⊥
unfolding begins_word
no_word_at_end h = cc

pub word_moves : (z : Text) → begins_word (slice_index z 0) ≡ true → 0 < prefix_len is_in_word z
word_moves [] h = absurd (no_word_at_end h)
word_moves (b ∷ z) h = rw (word_goes_on b h) (omega arith)

none_past_end : is_in_word 0 ≡ false
unfolding is_in_word
none_past_end = refl

pub no_word_past_end : (z : Text) (n : ℕ) → length z ≤ n → is_in_word (slice_index z n) ≡ false
no_word_past_end z n h = rw (get_or_past z n 0 h) none_past_end

-- after a byte of what follows the first bytes
pub cut_after : (k : ℕ) (z : Text) (end : ℕ) → IsUtf8 z → end < length (drop k z) → slice_index (drop k z) end < 128 → IsCharBoundary z (k + end + 1)
cut_after k z end u h ascii =
    IsCharBoundary-after_ascii z (k + end) u (omega (arith, length-drop k z)) (rw (← get_or-drop) ascii)

-- at a place in what follows the first bytes
pub cut_at_rest : (k : ℕ) (z : Text) (n : ℕ) → k ≤ length z → IsCharBoundary (drop k z) n → IsCharBoundary z (k + n)
cut_at_rest k z n h b = IsCharBoundary-from_rest z k n h b

pub cut_before : (z : Text) (n : ℕ) → n < length z → slice_index z n < 128 → IsCharBoundary z n
cut_before z n h ascii = IsCharBoundary-before_ascii z n h ascii

pub cut_past_quote : (z rest : Text) (end quote : ℕ) → IsUtf8 z → rest ≡ drop 1 z → end < length rest → slice_index rest end ≡ quote → quote < 128 → IsCharBoundary z (end + 2)
cut_past_quote z rest end quote u r h e ascii =
    let place : 1 + end + 1 ≡ end + 2 = omega arith in
    let h' : end < length (drop 1 z) = rw (← r) h in
    let ascii' : slice_index (drop 1 z) end < 128 = rw (← r, e) ascii in
    rw (← place) (cut_after 1 z end u h' ascii')

pub cut_past_blob : (z rest : Text) (end : ℕ) → IsUtf8 z → rest ≡ drop 2 z → end < length rest → slice_index rest end < 128 → IsCharBoundary z (end + 3)
cut_past_blob z rest end u r h ascii =
    let place : 2 + end + 1 ≡ end + 3 = omega arith in
    let h' : end < length (drop 2 z) = rw (← r) h in
    let ascii' : slice_index (drop 2 z) end < 128 = rw (← r) ascii in
    rw (← place) (cut_after 2 z end u h' ascii')

pub ascii_outside_line : (b : ℕ) → is_in_line b ≡ false → b < 128
unfolding is_in_line
ascii_outside_line b h = grind (arith, nat_tests)

pub cut_after_second : (z : Text) → IsUtf8 z → 1 < length z → slice_index z 1 < 128 → IsCharBoundary z 2
cut_after_second z u h ascii = IsCharBoundary-after_ascii z 1 u h ascii

pub cut_past_slash : (z : Text) (at : ℕ) → IsUtf8 z → at + 1 < length z → slice_index z (at + 1) ≡ 47 → IsCharBoundary z (at + 2)
cut_past_slash z at u h e =
    let place : (at + 1) + 1 ≡ at + 2 = omega arith in
    rw (← place) (IsCharBoundary-after_ascii z (at + 1) u h (omega (arith, e)))

pub letter_begins_word : (b : ℕ) → (b ≡ 88) ⊎ (b ≡ 120) → begins_word b ≡ true
unfolding begins_word
letter_begins_word b (inl e) = rw e refl
letter_begins_word b (inr e) = rw e refl

-- the second byte of a comment is ASCII
pub gap_second : (b c : ℕ) → is_gap b c ≡ true → is_white b ≡ false → (0 < c) × (c < 128)
gap_second b c h w =
    let h1 = rw w at h in
    (grind (arith, nat_tests), grind (arith, nat_tests))

pub has_second : (z : Text) → 0 < slice_index z 1 → 1 < length z
has_second [] h = absurd (omega arith)
has_second (b ∷ []) h = absurd (omega arith)
has_second (b ∷ c ∷ z) h = omega arith

pub cut_past_sign : (z : Text) (n next : ℕ) → IsUtf8 z → 0 < length z → slice_index z 0 < 128 → next ≡ slice_index z 1 → (n ≡ 1) ⊎ ((n ≡ 2) × (0 < next) × (next < 128)) → IsCharBoundary z n
cut_past_sign z n next u some ascii e (inl h) = rw h (cut_after_first z u some ascii)
cut_past_sign z n next u some ascii e (inr h) =
    let second : 0 < slice_index z 1 = rw (← e) h.1 in
    rw h.0 (cut_after_second z u (has_second z second) (rw (← e) h.2))

pub cut_at_start : (z : Text) → IsUtf8 z → IsCharBoundary z 0
cut_at_start z u = IsCharBoundary-start z u

pub cut_past_pair : (z : Text) (at quote : ℕ) → IsUtf8 z → at + 1 < length z → slice_index z (at + 1) ≡ quote → quote < 128 → IsCharBoundary z (at + 2)
cut_past_pair z at quote u h e ascii =
    let place : (at + 1) + 1 ≡ at + 2 = omega arith in
    rw (← place) (IsCharBoundary-after_ascii z (at + 1) u h (omega (arith, e)))
