-- A value that is an integer without a sign.
use Rattle.std.proofs.Common.{◌≡◌, true, false, List, [], ◌∷◌, refl}
use Rattle.rt_sql.specs.declared.token.Token.{Token}
use Rattle.rt_sql.specs.declared.token.Token.TheVariants as token
use Rattle.rt_sql_statement.specs.declared.value.Value.TheVariants as value
use Rattle.rt_sql.specs.Reading.{Read, a_value, not_null, integer, number, sees_digits, sees_word, sees_sign, is_word, is_sign, sees_literal, is_literal, first, pure, ◌>>=◌}

pub digits_value : (read : Read) (ts : List Token) → sees_digits ts ≡ true → a_value read ts ≡ (number read false >>= (λ n. pure (value.Int n))) ts
unfolding a_value not_null integer sees_digits sees_word sees_sign is_word is_sign sees_literal is_literal first
digits_value read [] h = absurd (cc)
digits_value read (token.Digits d ∷ ts) h = refl
digits_value read (token.Word w ∷ ts) h = absurd (cc)
digits_value read (token.Quoted q ∷ ts) h = absurd (cc)
digits_value read (token.Text t ∷ ts) h = absurd (cc)
digits_value read (token.Blob b ∷ ts) h = absurd (cc)
digits_value read (token.Sign s ∷ ts) h = absurd (cc)
digits_value read (token.Dot w ∷ ts) h = absurd (cc)
digits_value read (token.Bad ∷ ts) h = absurd (cc)
