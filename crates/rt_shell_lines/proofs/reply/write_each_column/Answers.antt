use Rattle.std.proofs.Common.{◌++◌, codes, sym, ap}
use Rattle.std.specs.List.{flat_map, join_by}
use Rattle.rt_bytes.proofs.Writing.{Writes-both, Writes-first}
use Rattle.rt_shell_lines.specs.Lines.{column_text, row_at}
use Rattle.rt_shell_lines.proofs.reply.write_each_column.Goals as goal

pub returns : goal.returns
returns g c =
    let row = row_at c.args.rows.now c.args.at in
    let behind = flat_map (λ place. codes "|" ++ column_text row place) c.in-Some.rest.now in
    Writes-both _ _ _ _ _ _ _ (column_text row c.in-Some.first.now) behind _
    (ap (join_by (column_text row) (codes "|")) (sym c.in-Some.ensures.cases.0)) (rw c.value_at.ensures at c.in_ok-write_field.ensures) c.write_more_columns.ensures

pub returns-in_err-write_field : goal.returns-in_err-write_field
returns-in_err-write_field g c =
    let row = row_at c.args.rows.now c.args.at in
    let behind = flat_map (λ place. codes "|" ++ column_text row place) c.in-Some.rest.now in
    Writes-first _ _ _ _ _ (column_text row c.in-Some.first.now) behind _
    (ap (join_by (column_text row) (codes "|")) (sym c.in-Some.ensures.cases.0)) c.from_residual.ensures.0 (rw c.value_at.ensures at c.in_err-write_field.ensures)
