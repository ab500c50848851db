use Rattle.std.proofs.Common.{codes, refl}
use Rattle.rt_bytes.proofs.Writing.{Writes-after, Writes-first}
use Rattle.rt_shell_lines.specs.Lines.{value_text}
use Rattle.rt_shell_lines.proofs.reply.write_after_bar.Goals as goal

pub returns : goal.returns
returns g c =
    Writes-after _ _ _ _ _ _ _ (codes "|") (value_text c.args.value.now) c.in_ok-write_bar.ensures c.write_value.ensures

pub returns-in_err-write_bar : goal.returns-in_err-write_bar
returns-in_err-write_bar g c =
    Writes-first _ _ _ _ _ (codes "|") (value_text c.args.value.now) _ refl c.from_residual.ensures.0 c.in_err-write_bar.ensures
