use Rattle.std.proofs.Common.{◌++◌, codes, arith, get_or}
use Rattle.std.proofs.lemmas.List.{get_or_default}
use Rattle.rt_bytes.proofs.Writing.{Writes-failed}
use Rattle.rt_shell_lines.proofs.Sequences.{WritesAll-item, WritesPrefix-item}
use Rattle.rt_shell_lines.specs.Lines.{column_text, row_at}
use Rattle.rt_shell_lines.proofs.reply.write_more_columns.Goals as goal

pub returns-in_err-write_column_after_bar : goal.returns-in_err-write_column_after_bar
returns-in_err-write_column_after_bar g c =
    let item = get_or c.args.places.now c.loop-place.place-index 0 in
    let row = row_at c.args.rows.now c.args.at in
    Writes-failed _ _ _ _ _ _ c.from_residual.ensures.0
    (WritesPrefix-item (λ place. codes "|" ++ column_text row place) _ _ _ _ _ _ c.args.places.now c.loop-place.place-index item (omega arith) (get_or_default c.args.places.now c.loop-place.place-index 0 item (omega arith))
    c.loop-place.invariant c.in_err-write_column_after_bar.ensures)

pub loop-place-preserved : goal.loop-place-preserved
loop-place-preserved g c =
    let item = get_or c.args.places.now c.loop-place.place-index 0 in
    let row = row_at c.args.rows.now c.args.at in
    WritesAll-item (λ place. codes "|" ++ column_text row place) _ _ _ _ _ _ c.args.places.now c.loop-place.place-index item (omega arith) (get_or_default c.args.places.now c.loop-place.place-index 0 item (omega arith))
    c.loop-place.invariant c.in_ok-write_column_after_bar.ensures
