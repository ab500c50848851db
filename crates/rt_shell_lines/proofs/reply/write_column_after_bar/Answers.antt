use Rattle.std.proofs.Common.{codes, refl}
use Rattle.rt_bytes.proofs.Writing.{Writes-after, Writes-first}
use Rattle.rt_shell_lines.specs.Lines.{column_text, row_at}
use Rattle.rt_shell_lines.proofs.reply.write_column_after_bar.Goals as goal

pub returns : goal.returns
returns g c =
    let text = column_text (row_at c.args.rows.now c.args.at) c.args.place in
    Writes-after _ _ _ _ _ _ _ (codes "|") text c.in_ok-write_bar.ensures (rw c.value_at.ensures at c.write_field.ensures)

pub returns-in_err-write_bar : goal.returns-in_err-write_bar
returns-in_err-write_bar g c =
    let text = column_text (row_at c.args.rows.now c.args.at) c.args.place in
    Writes-first _ _ _ _ _ (codes "|") text _ refl c.from_residual.ensures.0 c.in_err-write_bar.ensures
