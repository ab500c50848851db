-- The tokens of a text, one token further.
use Rattle.std.proofs.Common.{◌≡◌, ℕ, zero, suc, ◌<◌, ◌-◌, [], ◌∷◌, length, List, Option, Some, None, false, drop, slice_index, refl, ap, ◌∙◌, arith}
use Rattle.std.specs.Option.{is_some}
use Rattle.rt_sql.specs.declared.token.Token.{Token}
use Rattle.rt_sql.specs.Token.{Text}
use Rattle.rt_sql.specs.Lex.{Lexeme, lexeme, put, tokens_from, tokens_of}

tokens_from-drop : (n : ℕ) (z : Text) → tokens_from n z ≡ tokens_from 0 (drop n z)
tokens_from-drop zero z = refl
tokens_from-drop (suc n) [] = refl
tokens_from-drop (suc n) (b ∷ z) = tokens_from-drop n z

drop-cons : (n b : ℕ) (z : Text) → 0 < n → drop (n - 1) z ≡ drop n (b ∷ z)
drop-cons zero b z h = absurd (omega arith)
drop-cons (suc n) b z h = let e : suc n - 1 ≡ n = omega arith in ap (λ k. drop k z) e

pub tokens_of-step : (b : ℕ) (z : Text) → 0 < (lexeme b (b ∷ z)).1 → tokens_of (b ∷ z) ≡ put (lexeme b (b ∷ z)).0 (tokens_of (drop (lexeme b (b ∷ z)).1 (b ∷ z)))
unfolding tokens_of
tokens_of-step b z moves =
    let found = lexeme b (b ∷ z) in
    ap (put found.0) (tokens_from-drop (found.1 - 1) z ∙ ap (λ s. tokens_from 0 s) (drop-cons found.1 b z moves))

pub lex_step : (z rest : Text) (b : ℕ) (found : Lexeme) → 0 < length z → b ≡ slice_index z 0 → found ≡ lexeme b z → 0 < found.1 → rest ≡ drop found.1 z → tokens_of z ≡ put found.0 (tokens_of rest)
lex_step [] rest b found some e f moves r = absurd (omega arith)
lex_step (x ∷ z) rest b found some e f moves r =
    let f' : found ≡ lexeme x (x ∷ z) = f ∙ ap (λ y. lexeme y (x ∷ z)) e in
    let moves' : 0 < (lexeme x (x ∷ z)).1 = rw (← f') moves in
    rw (r, f') (tokens_of-step x z moves')

pub put_none : (found : Option Token) (ts : List Token) → is_some found ≡ false → put found ts ≡ ts
put_none None ts h = refl
put_none (Some t) ts h = cc

pub tokens_of-nil : tokens_of [] ≡ []
unfolding tokens_of
tokens_of-nil = refl
