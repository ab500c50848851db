use Rattle.std.proofs.Common.{◌≡◌, ap, subst, arith, length, get_or, ◌<◌, pos}
use Rattle.rt_bytes.specs.Bytes.{WritesPrefix}
use Rattle.rt_check_dump.specs.Dump.{row_line}
use Rattle.rt_check.specs.declared.node.RowEntry.{RowEntry}
use Rattle.rt_bytes.proofs.Writing.{WritesPrefix-part, Writes-failed}
use Rattle.rt_check_dump.proofs.dump.write_rows.Goals as goal

pub returns-in_err-write_row : goal.returns-in_err-write_row
returns-in_err-write_row g c =
    let items = c.args.shadow.now.rows in
    let i = c.loop-row.row-index in
    let d : RowEntry = record { id = pos 0; leaf = pos 0 } in
    let this : get_or c.rows-row-items.result.now i d ≡ get_or items i d = ap (λ l. get_or l i d) c.rows-row-items.ensures.value in
    let same : length c.rows-row-items.result.now ≡ length items = ap length c.rows-row-items.ensures.value in
    let within : i < length items = omega (arith, same, c.loop-row-test.true) in
    let front : WritesPrefix (g.W.ByteWriter.written c.loop-row.writer) (g.W.ByteWriter.written c.write_row.new.writer) (g.W.ByteWriter.faults c.loop-row.writer)
    (g.W.ByteWriter.faults c.write_row.new.writer) (row_line (get_or items i d)) =
    subst (λ (x : RowEntry). WritesPrefix (g.W.ByteWriter.written c.loop-row.writer) (g.W.ByteWriter.written c.write_row.new.writer)
    (g.W.ByteWriter.faults c.loop-row.writer) (g.W.ByteWriter.faults c.write_row.new.writer) (row_line x)) this c.in_err-write_row.ensures in
    Writes-failed _ _ _ _ _ _ c.from_residual.ensures.0
    (WritesPrefix-part row_line _ _ _ _ _ _ items i d within c.loop-row.invariant front)
