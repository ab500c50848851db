use Rattle.std.proofs.Common.{◌≡◌, ◌+◌, [], ◌∷◌, ◌++◌, take, drop, sym, ◌∙◌, Some, None}
use Rattle.std.specs.List.{position}
use Rattle.rt_bytes.proofs.Writing.{WritesAll-trans, Writes-both}
use Rattle.rt_sql.specs.Token.{double}
use Rattle.rt_shell_lines.proofs.Quotes.{is_quote, doubled-parts, doubled-more, doubled-rest, goes_on}
use Rattle.rt_shell_lines.proofs.Sequences.{Writes-middle}
use Rattle.rt_shell_lines.proofs.value.write_doubled.Goals as goal

pub returns-in_err-write_parts : goal.returns-in_err-write_parts
returns-in_err-write_parts g c =
    let rest = c.loop-quote.rest.now in
    let done = c.loop-quote.invariant.0 in
    let quote = c.in-Some.quote in
    let at : position is_quote rest ≡ Some quote = sym c.first_quote.ensures ∙ c.in-Some.is in
    Writes-middle _ _ _ _ _ _ _ (double 39 done) (take (quote + 1) rest ++ 39 ∷ []) (double 39 (drop (quote + 1) rest)) _
    (doubled-parts c.args.text.now done rest quote c.loop-quote.invariant.1 at)
    c.from_residual.ensures.0 c.loop-quote.invariant.2 c.in_err-write_parts.ensures

pub loop-quote-preserved : goal.loop-quote-preserved
loop-quote-preserved g c =
    let rest = c.loop-quote.rest.now in
    let done = c.loop-quote.invariant.0 in
    let quote = c.in-Some.quote in
    let at : position is_quote rest ≡ Some quote = sym c.first_quote.ensures ∙ c.in-Some.is in (
      done ++ take (quote + 1) rest,
      goes_on c.args.text.now done rest (quote + 1) c.loop-quote.invariant.1,
      rw (← doubled-more done rest quote at)
          (WritesAll-trans _ _ _ _ _ _ (double 39 done) (take (quote + 1) rest ++ 39 ∷ []) c.loop-quote.invariant.2 c.in_ok-write_parts.ensures),
    )

pub returns : goal.returns
returns g c =
    let rest = c.loop-quote.rest.now in
    let none : position is_quote rest ≡ None = sym c.first_quote.ensures ∙ c.in_default.is in
    let done = c.loop-quote.invariant.0 in
    Writes-both _ _ _ _ _ _ _ (double 39 done) rest _ (doubled-rest c.args.text.now done rest c.loop-quote.invariant.1 none)
    c.loop-quote.invariant.2 c.write_whole.ensures
