use Rattle.std.proofs.Common.{◌++◌, codes, arith, get_or, pos}
use Rattle.std.proofs.lemmas.List.{get_or_default}
use Rattle.rt_bytes.proofs.Writing.{Writes-failed}
use Rattle.rt_shell_lines.proofs.Sequences.{WritesAll-item, WritesPrefix-item}
use Rattle.std.specs.Fmt.{signed_decimal}
use Rattle.rt_shell_lines.proofs.reply.write_more_numbers.Goals as goal

pub returns-in_err-write_number_after_bar : goal.returns-in_err-write_number_after_bar
returns-in_err-write_number_after_bar g c =
    let item = get_or c.args.numbers.now c.loop-number.number-index (pos 0) in
    Writes-failed _ _ _ _ _ _ c.from_residual.ensures.0
    (WritesPrefix-item (λ number. codes "|" ++ signed_decimal number) _ _ _ _ _ _ c.args.numbers.now c.loop-number.number-index item (omega arith) (get_or_default c.args.numbers.now c.loop-number.number-index (pos 0) item (omega arith))
    c.loop-number.invariant c.in_err-write_number_after_bar.ensures)

pub loop-number-preserved : goal.loop-number-preserved
loop-number-preserved g c =
    let item = get_or c.args.numbers.now c.loop-number.number-index (pos 0) in
    WritesAll-item (λ number. codes "|" ++ signed_decimal number) _ _ _ _ _ _ c.args.numbers.now c.loop-number.number-index item (omega arith) (get_or_default c.args.numbers.now c.loop-number.number-index (pos 0) item (omega arith))
    c.loop-number.invariant c.in_ok-write_number_after_bar.ensures
