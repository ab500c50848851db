use Rattle.std.proofs.Common.{codes}
use Rattle.std.specs.List.{join_by}
use Rattle.rt_bytes.proofs.Writing.{Writes-both, Writes-first}
use Rattle.rt_shell_lines.specs.Lines.{column_text, row_at}
use Rattle.rt_shell_lines.proofs.Columns.{columns-line}
use Rattle.rt_shell_lines.proofs.reply.write_long_columns.Goals as goal

pub returns : goal.returns
returns g c =
    let row = row_at c.args.rows.now c.args.at in
    Writes-both _ _ _ _ _ _ _ (join_by (column_text row) (codes "|") c.args.places.now) (codes "\n") _ (columns-line row c.args.places.now)
    c.in_ok-write_each_column.ensures c.write_line_end.ensures

pub returns-in_err-write_each_column : goal.returns-in_err-write_each_column
returns-in_err-write_each_column g c =
    let row = row_at c.args.rows.now c.args.at in
    Writes-first _ _ _ _ _ (join_by (column_text row) (codes "|") c.args.places.now) (codes "\n") _ (columns-line row c.args.places.now)
    c.from_residual.ensures.0 c.in_err-write_each_column.ensures
