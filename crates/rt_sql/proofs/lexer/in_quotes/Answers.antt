use Rattle.std.proofs.Common.{◌∙◌}
use Rattle.rt_sql.proofs.Cuts.{cut_past_quote}
use Rattle.rt_sql.proofs.lexer.in_quotes.Goals as goal

pub returns-in-Some-clause-cut : goal.returns-in-Some-clause-cut
returns-in-Some-clause-cut c =
    let within = c.in-Some.ensures.within in
    cut_past_quote c.args.text.now c.as_bytes.result.now c.in-Some.end c.args.quote c.utf8.text (c.as_bytes.ensures.value ∙ c.range_from-rest.ensures.value) within.0 within.1 c.requires.ascii

pub returns-in-Some-2-clause-cut : goal.returns-in-Some-2-clause-cut
returns-in-Some-2-clause-cut c =
    let within = c.in-Some.ensures.within in
    cut_past_quote c.args.text.now c.as_bytes.result.now c.in-Some.end c.args.quote c.utf8.text (c.as_bytes.ensures.value ∙ c.range_from-rest.ensures.value) within.0 within.1 c.requires.ascii
