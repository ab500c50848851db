use Rattle.std.proofs.Common.{◌≡◌, sym, ap, ◌∙◌, subst, arith, length, get_or, ◌<◌}
use Rattle.rt_bytes.specs.Bytes.{WritesPrefix}
use Rattle.rt_check_dump.specs.Dump.{cell_line}
use Rattle.rt_check.specs.declared.node.RawCell.{RawCell}
use Rattle.rt_bytes.proofs.Writing.{WritesPrefix-part, Writes-failed}
use Rattle.rt_check_dump.proofs.dump.write_cells.Goals as goal

pub returns-in_err-write_cell : goal.returns-in_err-write_cell
returns-in_err-write_cell g c =
    let items = c.args.node.now.cells in
    let i = c.loop-cell.cell-index in
    let d = c.cell-item.result in
    let this : get_or items i d ≡ d = ap (λ l. get_or l c.loop-cell.cell-index c.cell-item.result) (sym c.as_slice-cell-items.ensures) ∙ sym c.cell-item.is in
    let within : i < length items = let same : length c.as_slice-cell-items.result.now ≡ length items = ap length c.as_slice-cell-items.ensures in omega (arith, same, c.loop-cell-test.true) in
    let front : WritesPrefix (g.W.ByteWriter.written c.loop-cell.writer) (g.W.ByteWriter.written c.write_cell.new.writer) (g.W.ByteWriter.faults c.loop-cell.writer)
    (g.W.ByteWriter.faults c.write_cell.new.writer) (cell_line (get_or items i d)) =
    subst (λ (x : RawCell g.row.D). WritesPrefix (g.W.ByteWriter.written c.loop-cell.writer) (g.W.ByteWriter.written c.write_cell.new.writer)
    (g.W.ByteWriter.faults c.loop-cell.writer) (g.W.ByteWriter.faults c.write_cell.new.writer) (cell_line x)) (sym this) c.in_err-write_cell.ensures in
    Writes-failed _ _ _ _ _ _ c.from_residual.ensures.0
    (WritesPrefix-part cell_line _ _ _ _ _ _ items i d within c.loop-cell.invariant front)
