use Rattle.std.proofs.Common.{◌≡◌, ◌≢◌, inl, inr, false, None, Some, rules}
use Rattle.rt_sql_statement.specs.declared.refusal.Refusal.TheVariants.{OutOfMemory}
use Rattle.rt_sql.specs.declared.number.Numbers.TheVariants.{AnySize}
use Rattle.rt_sql.specs.Lex.{piece_tokens}
use Rattle.rt_sql.specs.Number.{number_by}
use Rattle.rt_sql.specs.Reading.{whole, unknown_in, first}
use Rattle.rt_sql.proofs.Parses.{parses_outside, parses_unknown, parses_none, read_whole, failed}
use Rattle.rt_sql.proofs.parser.refusal.Goals as goal

pub returns-then-is_unknown_command : goal.returns-then-is_unknown_command
returns-then-is_unknown_command c = inr (parses_unknown c.args.text.now (search rules))

pub returns-in-None : goal.returns-in-None
returns-in-None c =
    let k = read_whole c.whole.result (whole (number_by AnySize) (piece_tokens c.args.text.now)) c.whole.new.tokens (search rules) (search rules) in
    inr (parses_outside c.args.text.now k.0 c.whole.new.tokens c.requires k.1)

pub returns-in-Some : goal.returns-in-Some
returns-in-Some c =
    let known : unknown_in (first (piece_tokens c.args.text.now)) ≡ false = search rules in
    let other : c.in-Some.field-0 ≢ OutOfMemory = search rules in
    let e = failed c.whole.result (whole (number_by AnySize) (piece_tokens c.args.text.now)) c.whole.new.tokens c.in-Some.field-0 (search rules) other (search rules) in
    inr (parses_none c.args.text.now known e)
