-- Words that are passed over, one word further.
use Rattle.std.proofs.Common.{◌≡◌, ◌<◌, true, false, List, [], ◌∷◌, length, refl, arith}
use Rattle.rt_sql.specs.declared.token.Token.{Token}
use Rattle.rt_sql.specs.Reading.{first, rest, sees_any_word, skip_words}

pub skip_more : (ts : List Token) → sees_any_word ts ≡ true → skip_words ts ≡ skip_words (rest ts)
unfolding sees_any_word first rest skip_words
skip_more [] h = refl
skip_more (t ∷ ts) h = rw h refl

pub skip_none : (ts : List Token) → sees_any_word ts ≡ false → skip_words ts ≡ ts
unfolding sees_any_word first skip_words
skip_none [] h = refl
skip_none (t ∷ ts) h = rw h refl

pub word_left : (ts : List Token) → sees_any_word ts ≡ true → length (rest ts) < length ts
unfolding sees_any_word first rest
word_left [] h = absurd (cc)
word_left (t ∷ ts) h = omega arith
