use Rattle.std.proofs.Common.{◌≡◌, None, [], ◌∷◌, ◌++◌, ap, sym, ◌∙◌, append_assoc, rules}
use Rattle.std.specs.List.{position}
use Rattle.rt_sql.specs.Token.{double}
use Rattle.rt_shell_lines.proofs.Quotes.{is_quote, doubled-no_quote}
use Rattle.rt_shell_lines.proofs.lines.Lines.put_text.Goals as goal

pub returns : goal.returns
returns c =
    let text = c.args.text.now in
    let none : position is_quote text ≡ None = search rules in
    c.in_ok-put_byte-2.ensures ∙ ap (λ l. 39 ∷ l) (c.in_ok-put.ensures ∙ ap (λ l. text ++ l) c.in_ok-put_byte.ensures)
    ∙ ap (λ l. 39 ∷ (l ++ 39 ∷ c.args.self.now)) (sym (doubled-no_quote text none))
    ∙ ap (λ l. 39 ∷ l) (sym (append_assoc (double 39 text) (39 ∷ []) c.args.self.now))
