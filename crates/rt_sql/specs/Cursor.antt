-- What a cursor over a text shows: the tokens that are left (own).
use Rattle.std.specs.Prelude.{◌≡◌, List, [], None}
use Rattle.rt_sql.specs.declared.token.Token.{Token}
use Rattle.rt_sql.specs.declared.tokens.Tokens.TheInside.{Inside}
use Rattle.rt_sql.specs.Lex.{put, tokens_of}

abbrev pub tokens_left : Inside → List Token
tokens_left t = put t.next (tokens_of t.text.now)

abbrev pub EndsWithText : Inside → Type 0
EndsWithText t = t.next ≡ None → t.text.now ≡ []
