use Rattle.std.proofs.Common.{◌++◌, codes, arith}
use Rattle.rt_bytes.proofs.Writing.{Writes-failed}
use Rattle.rt_shell_lines.proofs.Sequences.{WritesAll-item, WritesPrefix-item}
use Rattle.rt_shell_lines.specs.Lines.{value_text}
use Rattle.rt_shell_lines.proofs.reply.write_more_values.Goals as goal

pub returns-in_err-write_after_bar : goal.returns-in_err-write_after_bar
returns-in_err-write_after_bar g c =
    Writes-failed _ _ _ _ _ _ c.from_residual.ensures.0
    (WritesPrefix-item (λ value. codes "|" ++ value_text value) _ _ _ _ _ _ c.args.values.now c.loop-value.value-index c.value-item.result (omega arith) c.value-item.is
    c.loop-value.invariant c.in_err-write_after_bar.ensures)

pub loop-value-preserved : goal.loop-value-preserved
loop-value-preserved g c =
    WritesAll-item (λ value. codes "|" ++ value_text value) _ _ _ _ _ _ c.args.values.now c.loop-value.value-index c.value-item.result (omega arith) c.value-item.is
    c.loop-value.invariant c.in_ok-write_after_bar.ensures
