use Rattle.std.proofs.Common.{◌≡◌, ◌≢◌, inl, inr, ⊎_elim, true, false, sym, ◌∙◌, ap, get_or, slice_index, rules}
use Rattle.rt_sql.specs.Lex.{begins_comment}
use Rattle.rt_sql.proofs.Cuts.{cut_past_sign, ascii_before_word}
use Rattle.rt_sql.proofs.Lexemes.{comment_lexeme, quote_lexeme, sign_lexeme}
use Rattle.rt_sql.proofs.lexer.mark_lexeme.Goals as goal

pub returns-then-begins_comment-clause-value : goal.returns-then-begins_comment-clause-value
returns-then-begins_comment-clause-value c =
    let z = c.args.text.now in
    let is_next = c.byte-next.ensures.value ∙ ap (λ x. get_or x 1 0) c.as_bytes.ensures.value in
    let begins : begins_comment c.args.first (slice_index z 1) ≡ true = rw (← is_next) (sym c.if-begins_comment.ensures) in
    sym (comment_lexeme c.args.first z c.requires.white begins ∙ c.comment_len.ensures.value)

pub returns-then-first-eq34-clause-value : goal.returns-then-first-eq34-clause-value
returns-then-first-eq34-clause-value c =
    c.in_quotes.ensures.value ∙ sym (quote_lexeme c.args.first c.args.text.now (⊎_elim inl (λ e. inr e.1) c.if-first-eq34.either))

pub returns-else-first-eq34-clause-value : goal.returns-else-first-eq34-clause-value
returns-else-first-eq34-clause-value c =
    let z = c.args.text.now in
    let is_next = c.byte-next.ensures.value ∙ ap (λ x. get_or x 1 0) c.as_bytes.ensures.value in
    let begins : begins_comment c.args.first (slice_index z 1) ≡ false = rw (← is_next) (sym c.if-begins_comment.ensures) in
    let single : c.args.first ≢ 39 = search rules in
    let double : c.args.first ≢ 34 = search rules in
    rw (c.sign.ensures.value, is_next) (sym (sign_lexeme c.args.first z c.requires.word c.requires.digit c.requires.white begins single double))

pub returns-else-first-eq34-clause-cut : goal.returns-else-first-eq34-clause-cut
returns-else-first-eq34-clause-cut c =
    let z = c.args.text.now in
    let is_next = c.byte-next.ensures.value ∙ ap (λ x. get_or x 1 0) c.as_bytes.ensures.value in
    cut_past_sign z c.sign.result.1 c.byte-next.result c.utf8.text c.requires.some
    (rw (← c.requires.first) (ascii_before_word c.args.first c.requires.word)) is_next c.sign.ensures.within
