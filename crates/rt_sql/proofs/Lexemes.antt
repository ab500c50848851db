-- The lexeme at a byte of each kind.
use Rattle.std.proofs.Common.{◌≡◌, ◌≢◌, ℕ, Bool, true, false, ◌==◌, ◌||◌, ◌&&◌, ◌∙◌, ◌⊎◌, inl, inr, if◌then◌else◌, None, drop, slice_index, refl, sym, arith}
use Rattle.std.proofs.lemmas.Bool.Decides.{nat_tests}
use Rattle.std.specs.Char.{is_ascii_digit}
use Rattle.rt_sql_cut.specs.Text.{is_white}
use Rattle.rt_sql.specs.Kind.{kind_of}
use Rattle.rt_sql.specs.declared.kind.Kind.{Kind}
use Rattle.rt_sql.specs.declared.kind.Kind.TheVariants.{Letter, Digit, Dollar, White, Mark}
use Rattle.rt_sql.specs.Lex.{lexeme, begins_comment, is_gap, gap, token_lexeme, word, digits, blob, in_quotes, sign}
use Rattle.rt_sql.specs.Token.{Text, begins_word, is_in_word}
use Rattle.rt_sql.proofs.Basics.{test}

-- ---- kinds

abbrev OfKind : ℕ → Kind → Type 0
OfKind b Letter = begins_word b ≡ true
OfKind b Digit = (is_ascii_digit b ≡ true) × (begins_word b ≡ false)
OfKind b Dollar = (b ≡ 36) × (begins_word b ≡ false) × (is_ascii_digit b ≡ false) × (is_white b ≡ false)
OfKind b White = (is_white b ≡ true) × (begins_word b ≡ false) × (is_ascii_digit b ≡ false) × (b ≢ 36)
OfKind b Mark = (b ≢ 36) × (begins_word b ≡ false) × (is_ascii_digit b ≡ false) × (is_white b ≡ false)

of_its_kind : (b : ℕ) → OfKind b (kind_of b)
unfolding kind_of
of_its_kind b =
    test (begins_word b)
    (λ e. rw e e)
    (λ w. test (is_ascii_digit b)
    (λ e. rw (w, e) (e, w))
    (λ d. test (b == 36)
    (λ e. rw (w, d, e) (grind (arith, nat_tests), w, d, grind (arith, nat_tests)))
    (λ n. test (is_white b)
    (λ e. rw (w, d, n, e) (e, w, d, grind (arith, nat_tests)))
    (λ e. rw (w, d, n, e) (grind (arith, nat_tests), w, d, e)))))

pub of_kind : (b : ℕ) (k : Kind) → k ≡ kind_of b → OfKind b k
of_kind b k e = rw e (of_its_kind b)

abbrev pub is_letter : Kind → Bool
is_letter Letter = true
is_letter Digit = false
is_letter Dollar = false
is_letter White = false
is_letter Mark = false

abbrev pub goes_on : Kind → Bool
goes_on Letter = true
goes_on Digit = true
goes_on Dollar = true
goes_on White = false
goes_on Mark = false

pub letter_kind : (b : ℕ) (k : Kind) → k ≡ kind_of b → begins_word b ≡ is_letter k
letter_kind b Letter e = of_kind b Letter e
letter_kind b Digit e = (of_kind b Digit e).1
letter_kind b Dollar e = (of_kind b Dollar e).1
letter_kind b White e = (of_kind b White e).1
letter_kind b Mark e = (of_kind b Mark e).1

in_word : (b : ℕ) → is_in_word b ≡ (begins_word b || is_ascii_digit b || b == 36)
unfolding is_in_word begins_word
in_word b = grind (arith, nat_tests)

pub word_kind : (b : ℕ) (k : Kind) → k ≡ kind_of b → is_in_word b ≡ goes_on k
word_kind b Letter e = let h = of_kind b Letter e in in_word b ∙ grind (arith, nat_tests)
word_kind b Digit e = let h = of_kind b Digit e in in_word b ∙ grind (arith, nat_tests)
word_kind b Dollar e = let h = of_kind b Dollar e in in_word b ∙ grind (arith, nat_tests)
word_kind b White e = let h = of_kind b White e in in_word b ∙ grind (arith, nat_tests)
word_kind b Mark e = let h = of_kind b Mark e in in_word b ∙ grind (arith, nat_tests)

pub a_word : (k : Kind) → (k ≡ Letter) ⊎ (k ≡ Digit) ⊎ (k ≡ Dollar) → goes_on k ≡ true
a_word k (inl e) = rw e refl
a_word k (inr (inl e)) = rw e refl
a_word k (inr (inr e)) = rw e refl

pub no_mark : (b : ℕ) (k : Kind) → k ≡ kind_of b → (k ≡ Dollar) ⊎ (k ≡ Mark) → (begins_word b ≡ false) × (is_ascii_digit b ≡ false) × (is_white b ≡ false)
no_mark b k e (inl d) = let h = of_kind b Dollar (sym d ∙ e) in (h.1, h.2, h.3)
no_mark b k e (inr m) = let h = of_kind b Mark (sym m ∙ e) in (h.1, h.2, h.3)

pub no_letter : (k : Kind) → k ≢ Letter → is_letter k ≡ false
no_letter Letter h = absurd (h refl)
no_letter Digit h = refl
no_letter Dollar h = refl
no_letter White h = refl
no_letter Mark h = refl

pub no_word : (k : Kind) → k ≢ Letter → k ≢ Digit → k ≢ Dollar → goes_on k ≡ false
no_word Letter h _ _ = absurd (h refl)
no_word Digit _ h _ = absurd (h refl)
no_word Dollar _ _ h = absurd (h refl)
no_word White _ _ _ = refl
no_word Mark _ _ _ = refl

-- ---- lexemes

pub white_lexeme : (b : ℕ) (z : Text) → is_white b ≡ true → lexeme b z ≡ (None, 1)
unfolding lexeme gap
white_lexeme b z h = rw h refl

letter_gap : (b c : ℕ) → begins_word b ≡ true → is_gap b c ≡ false
unfolding begins_word
letter_gap b c h = grind (arith, nat_tests)

no_blob : (b c : ℕ) → begins_word b ≡ false → ((b == 88 || b == 120) && c == 39) ≡ false
unfolding begins_word
no_blob b c h = grind (arith, nat_tests)

pub letter_lexeme : (b : ℕ) (z : Text) → begins_word b ≡ true → lexeme b z ≡ (if (b == 88 || b == 120) && slice_index z 1 == 39 then blob (drop 2 z) (word z) else word z)
unfolding lexeme token_lexeme
letter_lexeme b z h = let g : is_gap b (slice_index z 1) ≡ false = letter_gap b (slice_index z 1) h in rw (g, h) refl

pub digit_lexeme : (b : ℕ) (z : Text) → is_ascii_digit b ≡ true → begins_word b ≡ false → lexeme b z ≡ digits z
unfolding lexeme token_lexeme
digit_lexeme b z h w =
    let g : is_gap b (slice_index z 1) ≡ false = grind (arith, nat_tests) in
    let x : ((b == 88 || b == 120) && slice_index z 1 == 39) ≡ false = grind (arith, nat_tests) in
    rw (g, x, w, h) refl

pub mark_lexeme : (b : ℕ) (z : Text) → begins_word b ≡ false → is_ascii_digit b ≡ false → is_white b ≡ false
    → lexeme b z ≡ (if is_gap b (slice_index z 1) then gap b z else (if b == 39 || b == 34 then in_quotes b (drop 1 z) else sign b (slice_index z 1)))
unfolding lexeme token_lexeme
mark_lexeme b z w d h =
    let x : ((b == 88 || b == 120) && slice_index z 1 == 39) ≡ false = no_blob b (slice_index z 1) w in
    rw (x, w, d) refl

no_gap : (b c : ℕ) → is_white b ≡ false → begins_comment b c ≡ false → is_gap b c ≡ false
no_gap b c w d = rw (w, d) refl

some_gap : (b c : ℕ) → is_white b ≡ false → begins_comment b c ≡ true → is_gap b c ≡ true
some_gap b c w d = rw (w, d) refl

no_quote : (b : ℕ) → b ≢ 39 → b ≢ 34 → (b == 39 || b == 34) ≡ false
no_quote b q d = grind (arith, nat_tests)

-- a byte that begins neither a comment nor quotes
pub sign_lexeme : (b : ℕ) (z : Text) → begins_word b ≡ false → is_ascii_digit b ≡ false → is_white b ≡ false
    → begins_comment b (slice_index z 1) ≡ false → b ≢ 39 → b ≢ 34 → lexeme b z ≡ sign b (slice_index z 1)
sign_lexeme b z w d h n e39 e34 =
    let g = no_gap b (slice_index z 1) h n in
    let q = no_quote b e39 e34 in
    mark_lexeme b z w d h ∙ rw (g, q) refl

pub quote_lexeme : (b : ℕ) (z : Text) → (b ≡ 39) ⊎ (b ≡ 34) → lexeme b z ≡ in_quotes b (drop 1 z)
unfolding lexeme token_lexeme begins_word
quote_lexeme b z (inl e) = rw e refl
quote_lexeme b z (inr e) = rw e refl

pub comment_lexeme : (b : ℕ) (z : Text) → is_white b ≡ false → begins_comment b (slice_index z 1) ≡ true → lexeme b z ≡ gap b z
unfolding lexeme
comment_lexeme b z w h = let g = some_gap b (slice_index z 1) w h in rw g refl
