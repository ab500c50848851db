-- What is read is spelled.
use Rattle.std.proofs.Common.{◌≡◌, ℕ, zero, suc, ◌⊎◌, inl, inr, Bool, true, false, List, [], ◌∷◌, ◌++◌, length, Option, Some, None, codes, if◌then◌else◌, refl, ap, ◌∙◌, sym, append_assoc}
use lib.IntN.{ℤ}
use denote.Enum.Bare.{same_true, sameb}
use Rattle.rt_sql.specs.contracts.token.Sign.{the_type}
use Rattle.rt_sql.specs.declared.token.Sign.{Sign}
use Rattle.rt_sql.specs.declared.token.Sign.TheVariants.{LeftParenthesis, RightParenthesis, Comma, Plus, Minus, Equal, DoubleEqual, LessGreater, BangEqual, Less, LessOrEqual, Greater, GreaterOrEqual}
use Rattle.rt_sql.specs.declared.token.Token.{Token}
use Rattle.rt_sql.specs.declared.token.Token.TheVariants as token
use Rattle.rt_sql.specs.Token.{Text, same_word, is_reserved}
use Rattle.rt_sql.specs.Number.{Writes}
use Rattle.rt_sql.specs.Grammar as G
use Rattle.rt_sql.specs.Reading.{Parser, Read}
use Rattle.rt_sql.specs.Reading as R
use Rattle.rt_sql.proofs.Basics.{cases, test, none}

abbrev held : {A : Type 0} → A → List Token → Option (A × List Token) → A × List Token
held a s None = (a, s)
held a s (Some p) = p

pub same : {A : Type 0} {a b : A} {s t : List Token} → ◌≡◌ {A = Option (A × List Token)} (Some (a, s)) (Some (b, t)) → (a ≡ b) × (s ≡ t)
same {A} {a} {b} {s} {t} e = (ap (λ o. (held a s o).0) e, ap (λ o. (held a s o).1) e)

-- the reading takes only numbers that are written, and takes each of them
abbrev pub TakesOnly : Read → Writes → Type 0
TakesOnly read writes = (b : Bool) (d : Text) (n : ℤ) → read b d ≡ Some n → writes b d n

abbrev pub TakesEach : Read → Writes → Type 0
TakesEach read writes = (b : Bool) (d : Text) (n : ℤ) → writes b d n → read b d ≡ Some n

abbrev pub Sound : {A : Type 0} → Parser A → (A → G.Part) → Type 0
Sound {A} p P = (ts : List Token) (a : A) (after : List Token) → p ts ≡ Some (a, after) → P a ts after

pub sound_sign : (s : Sign) → Sound (R.sign s) (λ _. G.sign s)
unfolding R.sign R.sees_sign R.is_sign R.first R.rest
sound_sign s [] a after h = none h
sound_sign s (token.Sign t ∷ ts) a after h =
    test (sameb the_type t s)
    (λ e. let h1 = rw e at h in
    let is_same : t ≡ s = same_true the_type tt _ _ e in
    rw (is_same, (same h1).1) refl)
    (λ e. none (rw e at h))
sound_sign s (_ ∷ ts) a after h = none h

pub sound_keyword : (w : Text) → Sound (R.keyword w) (λ _. G.word w)
unfolding R.keyword R.sees_word R.is_word R.first R.rest
sound_keyword w [] a after h = none h
sound_keyword w (token.Word v ∷ ts) a after h =
    test (same_word v w)
    (λ e. let h1 = rw e at h in (v, rw ((same h1).1) refl, e))
    (λ e. none (rw e at h))
sound_keyword w (_ ∷ ts) a after h = none h

pub sound_name : Sound R.name G.name
unfolding R.name R.name_in R.first R.rest
sound_name [] a after h = none h
sound_name (token.Word w ∷ ts) a after h =
    test (is_reserved w)
    (λ e. none (rw e at h))
    (λ e. let h1 = rw e at h in
    let k = same h1 in
    inl (rw (k.0, k.1) refl, rw (← k.0) e))
sound_name (token.Quoted q ∷ ts) a after h = let k = same h in inr (q, rw k.1 refl, sym k.0)
sound_name (_ ∷ ts) a after h = none h

pub sound_number : (read : Read) (writes : Writes) (only : TakesOnly read writes) (is_negative : Bool) → Sound (R.number read is_negative) (G.digits writes is_negative)
unfolding R.number R.number_in R.first R.rest
sound_number read writes only is_negative [] a after h = none h
sound_number read writes only is_negative (token.Digits d ∷ ts) a after h =
    cases (read is_negative d)
    (λ e. none (rw e at h))
    (λ n e. let k = same (rw e at h) in (d, rw (k.1) refl, rw (← k.0) (only is_negative d n e)))
sound_number read writes only is_negative (_ ∷ ts) a after h = none h

-- a sign or a word that comes next
pub sees_sign_is : (s : Sign) (ts : List Token) → R.sees_sign s ts ≡ true → G.sign s ts (R.rest ts)
unfolding R.sees_sign R.is_sign R.first R.rest
sees_sign_is s [] e = absurd (cc)
sees_sign_is s (token.Sign t ∷ ts) e = rw (same_true the_type tt t s e) refl
sees_sign_is s (_ ∷ ts) e = absurd (cc)

pub sees_word_is : (w : Text) (ts : List Token) → R.sees_word w ts ≡ true → G.word w ts (R.rest ts)
unfolding R.sees_word R.is_word R.first R.rest
sees_word_is w [] e = absurd (cc)
sees_word_is w (token.Word v ∷ ts) e = (v, refl, e)
sees_word_is w (_ ∷ ts) e = absurd (cc)

pub sound_literal : (writes : Writes) → Sound R.literal (G.value writes)
unfolding R.literal R.literal_in R.first R.rest
sound_literal writes [] a after h = none h
sound_literal writes (token.Text t ∷ ts) a after h = let k = same h in rw (← k.0, ← k.1) (t, refl, refl)
sound_literal writes (token.Blob d ∷ ts) a after h = let k = same h in rw (← k.0, ← k.1) (d, refl, refl)
sound_literal writes (_ ∷ ts) a after h = none h

pub sound_text : Sound R.text G.text
unfolding R.text R.text_in R.first R.rest
sound_text [] a after h = none h
sound_text (token.Text t ∷ ts) a after h = let k = same h in rw (← k.0, ← k.1) (t, refl, refl)
sound_text (_ ∷ ts) a after h = none h

pub sound_operator : Sound R.operator G.operator
unfolding R.operator R.operator_in R.first R.rest
sound_operator [] a after h = none h
sound_operator (token.Sign Equal ∷ ts) a after h = let k = same h in rw (← k.0, ← k.1) (inl refl)
sound_operator (token.Sign DoubleEqual ∷ ts) a after h = let k = same h in rw (← k.0, ← k.1) (inr refl)
sound_operator (token.Sign LessGreater ∷ ts) a after h = let k = same h in rw (← k.0, ← k.1) (inl refl)
sound_operator (token.Sign BangEqual ∷ ts) a after h = let k = same h in rw (← k.0, ← k.1) (inr refl)
sound_operator (token.Sign Less ∷ ts) a after h = let k = same h in rw (← k.0, ← k.1) refl
sound_operator (token.Sign LessOrEqual ∷ ts) a after h = let k = same h in rw (← k.0, ← k.1) refl
sound_operator (token.Sign Greater ∷ ts) a after h = let k = same h in rw (← k.0, ← k.1) refl
sound_operator (token.Sign GreaterOrEqual ∷ ts) a after h = let k = same h in rw (← k.0, ← k.1) refl
sound_operator (_ ∷ ts) a after h = none h

pub words_are : (ts : List Token) → G.any_words ts (R.skip_words ts)
unfolding R.skip_words R.is_any_word
words_are [] = ([], refl)
words_are (token.Word w ∷ ts) = let k = words_are ts in (w ∷ k.0, ap (λ x. token.Word w ∷ x) k.1)
words_are (_ ∷ ts) = ([], refl)

-- ---- lists

module _ {A : Type 0} (separator : G.Part) (P : A → G.Part) where
  further_from : (ys : List A) (ts mid after : List Token) → separator ts mid → G.sequence separator P ys mid after → G.further separator P ys ts after
  further_from [] ts mid after c g = absurd g
  further_from (y ∷ ys) ts mid after c g = (mid, c, g)

module _ {A : Type 0} (sees : List Token → Bool) (separator : G.Part) (is_seen : (ts : List Token) → sees ts ≡ true → separator ts (R.rest ts)) (item : Parser A) (P : A → G.Part) (sound : Sound item P) where
  sound_sequence_from : (n : ℕ) (found : List A) (ts : List Token) (vs : List A) (after : List Token) → R.sequence_from sees item n found ts ≡ Some (vs, after) → (xs : List A) × (vs ≡ found ++ xs) × G.sequence separator P xs ts after
  unfolding R.sequence_from
  sound_sequence_from zero found ts vs after h = none h
  sound_sequence_from (suc n) found ts vs after h =
      cases (item ts)
      (λ e. none (rw e at h))
      (λ x e. let h1 = rw e at h in
      test (sees x.1)
      (λ f. let more = sound_sequence_from n (found ++ x.0 ∷ []) (R.rest x.1) vs after (rw f at h1) in (
        x.0 ∷ more.0,
        more.1 ∙ append_assoc found (x.0 ∷ []) more.0,
        (x.1, sound ts x.0 x.1 e, further_from separator P more.0 x.1 (R.rest x.1) after (is_seen x.1 f) more.2),
      ))
      (λ f. let k = same (rw f at h1) in (x.0 ∷ [], sym k.0, (x.1, sound ts x.0 x.1 e, k.1))))

  pub sound_sequence : Sound (R.sequence sees item) (G.sequence separator P)
  sound_sequence ts vs after h =
      let k = sound_sequence_from (length ts) [] ts vs after h in
      rw k.1 k.2

pub sound_by_commas : {A : Type 0} (item : Parser A) (P : A → G.Part) → Sound item P → Sound (R.by_commas item) (G.by_commas P)
sound_by_commas item P sound = sound_sequence (R.sees_sign Comma) (G.sign Comma) (sees_sign_is Comma) item P sound

-- ---- parts with numbers in them

words_are_at : (ts : List Token) (u : Unit {0}) (after : List Token) → R.words ts ≡ Some (u, after) → G.any_words ts after
words_are_at ts u after h = rw (← (same h).1) (words_are ts)

pub sound_integer : (read : Read) (writes : Writes) (only : TakesOnly read writes) → Sound (R.integer read) (G.integer writes)
unfolding R.integer
sound_integer read writes only ts a after h =
    test (R.sees_sign Minus ts)
    (λ e. inr (inr (R.rest ts, sees_sign_is Minus ts e, sound_number read writes only true (R.rest ts) a after (rw e at h))))
    (λ e. let h1 = rw e at h in
    test (R.sees_sign Plus ts)
    (λ f. inr (inl (R.rest ts, sees_sign_is Plus ts f, sound_number read writes only false (R.rest ts) a after (rw f at h1))))
    (λ f. inl (sound_number read writes only false ts a after (rw f at h1))))

pub sound_not_null : (read : Read) (writes : Writes) (only : TakesOnly read writes) → Sound (R.not_null read) (G.value writes)
unfolding R.not_null
sound_not_null read writes only ts a after h =
    test (R.sees_literal ts)
    (λ e. sound_literal writes ts a after (rw e at h))
    (λ e. let h1 = rw e at h in
    cases (R.integer read ts)
    (λ f. none (rw f at h1))
    (λ x f. let k = same (rw f at h1) in rw (← k.0, ← k.1) (sound_integer read writes only ts x.0 x.1 f)))

pub sound_value : (read : Read) (writes : Writes) (only : TakesOnly read writes) → Sound (R.a_value read) (G.value writes)
unfolding R.a_value
sound_value read writes only ts a after h =
    test (R.sees_word (codes "NULL") ts)
    (λ e. let k = same (rw e at h) in rw (← k.0, ← k.1) (sees_word_is (codes "NULL") ts e))
    (λ e. sound_not_null read writes only ts a after (rw e at h))

pub sound_list : (read : Read) (writes : Writes) (only : TakesOnly read writes) → Sound (R.list read) (G.list writes)
unfolding R.list
sound_list read writes only ts r after h0 =
    cases (R.sign LeftParenthesis ts) (λ e. none (rw e at h0)) (λ x1 e1. let h1 = rw e1 at h0 in
    cases (R.by_commas (R.a_value read) x1.1) (λ e. none (rw e at h1)) (λ x2 e2. let h2 = rw e2 at h1 in
    cases (R.sign RightParenthesis x2.1) (λ e. none (rw e at h2)) (λ x3 e3. let h3 = rw e3 at h2 in
    let k = same h3 in
    rw (← k.0, ← k.1) (x1.1, sound_sign LeftParenthesis ts x1.0 x1.1 e1, (x2.1, sound_by_commas (R.a_value read) (G.value writes) (sound_value read writes only) x1.1 x2.0 x2.1 e2, sound_sign RightParenthesis x2.1 x3.0 x3.1 e3)))))

abbrev pub second_part : Writes → G.Part
second_part writes ts after = G.nothing ts after ⊎ ((mid : List Token) × G.sign Comma ts mid × G.some_digits writes mid after)

pub sound_second_size : (read : Read) (writes : Writes) (only : TakesOnly read writes) → Sound (R.second_size read) (λ _. second_part writes)
unfolding R.second_size
sound_second_size read writes only ts a after h =
    test (R.sees_sign Comma ts)
    (λ e. let h1 = rw e at h in
    cases (R.number read false (R.rest ts))
    (λ f. none (rw f at h1))
    (λ x f. let k = same (rw f at h1) in rw (← k.1) (inr (R.rest ts, sees_sign_is Comma ts e, (x.0, sound_number read writes only false (R.rest ts) x.0 x.1 f)))))
    (λ e. inl (same (rw e at h)).1)

pub sound_size_digits : (read : Read) (writes : Writes) (only : TakesOnly read writes) (start ts : List Token) (u : Unit {0}) (after : List Token) → G.sign LeftParenthesis start ts → R.size_digits read ts ≡ Some (u, after) → G.size writes start after
unfolding R.size_digits
sound_size_digits read writes only start ts u after open_at h0 =
    cases (R.number read false ts) (λ e. none (rw e at h0)) (λ x1 e1. let h1 = rw e1 at h0 in
    cases (R.second_size read x1.1) (λ e. none (rw e at h1)) (λ x2 e2. let h2 = rw e2 at h1 in
    cases (R.sign RightParenthesis x2.1) (λ e. none (rw e at h2)) (λ x3 e3. let h3 = rw e3 at h2 in
    (ts, open_at, (x1.1, (x1.0, sound_number read writes only false ts x1.0 x1.1 e1), (x2.1, sound_second_size read writes only x1.1 x2.0 x2.1 e2, (x3.1, sound_sign RightParenthesis x2.1 x3.0 x3.1 e3, words_are_at x3.1 u after h3)))))))

pub sound_size : (read : Read) (writes : Writes) (only : TakesOnly read writes) (ts : List Token) (u : Unit {0}) (after : List Token) → R.size read ts ≡ Some (u, after) → G.nothing ts after ⊎ G.size writes ts after
unfolding R.size
sound_size read writes only ts u after h =
    test (R.sees_sign LeftParenthesis ts)
    (λ e. inr (sound_size_digits read writes only ts (R.rest ts) u after (sees_sign_is LeftParenthesis ts e) (rw e at h)))
    (λ e. inl (same (rw e at h)).1)

pub sound_mark : (ts : List Token) → G.flag (G.sign Plus) (R.sees_sign Plus ts) ts (if R.sees_sign Plus ts then R.rest ts else ts)
sound_mark ts =
    test (R.sees_sign Plus ts)
    (λ e. rw e (sees_sign_is Plus ts e))
    (λ e. rw e refl)

pub sound_column : (read : Read) (writes : Writes) (only : TakesOnly read writes) → Sound (R.column read) (G.column writes)
unfolding R.column
sound_column read writes only ts r after h0 =
    let t0 : List Token = if R.sees_sign Plus ts then R.rest ts else ts in
    cases (R.name t0) (λ e. none (rw e at h0)) (λ x1 e1. let h1 = rw e1 at h0 in
    let t2 = R.skip_words x1.1 in
    cases (R.size read t2) (λ e. none (rw e at h1)) (λ x3 e3. let h3 = rw e3 at h1 in
    let k = same h3 in
    rw (← k.0, ← k.1) (t0, sound_mark ts, (x1.1, sound_name t0 x1.0 x1.1 e1, (t2, words_are x1.1, sound_size read writes only t2 x3.0 x3.1 e3)))))
