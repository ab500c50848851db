use Rattle.std.proofs.Common.{◌++◌, codes}
use Rattle.std.specs.Fmt.{signed_decimal}
use Rattle.std.specs.List.{flat_map}
use Rattle.rt_bytes.proofs.Writing.{Writes-both, Writes-first}
use Rattle.rt_shell_lines.specs.Lines.{value_text}
use Rattle.rt_shell_lines.proofs.Listed.{bars-listed}
use Rattle.rt_shell_lines.proofs.reply.write_more_listed.Goals as goal

pub returns : goal.returns
returns g c =
    let numbers = flat_map (λ number. codes "|" ++ signed_decimal number) c.args.numbers.now in
    let values = flat_map (λ value. codes "|" ++ value_text value) c.args.values.now in
    Writes-both _ _ _ _ _ _ _ numbers values _ (bars-listed c.args.numbers.now c.args.values.now) c.in_ok-write_more_numbers.ensures c.write_more_values.ensures

pub returns-in_err-write_more_numbers : goal.returns-in_err-write_more_numbers
returns-in_err-write_more_numbers g c =
    let numbers = flat_map (λ number. codes "|" ++ signed_decimal number) c.args.numbers.now in
    let values = flat_map (λ value. codes "|" ++ value_text value) c.args.values.now in
    Writes-first _ _ _ _ _ numbers values _ (bars-listed c.args.numbers.now c.args.values.now) c.from_residual.ensures.0 c.in_err-write_more_numbers.ensures
