use Rattle.std.proofs.Common.{refl, ap, ◌++◌}
use Rattle.std.specs.List.{zip}
use Rattle.rt_bytes.proofs.Writing.{Writes-both, Writes-first, Writes-after}
use Rattle.rt_check_dump.proofs.DumpText.{line_rest-ranges}
use Rattle.rt_check_dump.proofs.dump.write_cell.Goals as goal

pub returns-in_err-write_cell_start : goal.returns-in_err-write_cell_start
returns-in_err-write_cell_start g c = Writes-first _ _ _ _ _ _ _ _ refl c.from_residual.ensures.0 c.in_err-write_cell_start.ensures

pub returns-in_err-write_ranges : goal.returns-in_err-write_ranges
returns-in_err-write_ranges g c =
    Writes-after _ _ _ _ _ _ _ _ _ c.in_ok-write_cell_start.ensures
    (Writes-first _ _ _ _ _ _ _ _ (line_rest-ranges (zip c.args.cell.now.lo c.args.cell.now.hi)) c.from_residual-in_err-write_ranges.ensures.0 c.in_err-write_ranges.ensures)

pub returns : goal.returns
returns g c =
    Writes-after _ _ _ _ _ _ _ _ _ c.in_ok-write_cell_start.ensures
    (Writes-both _ _ _ _ _ _ _ _ _ _ (line_rest-ranges (zip c.args.cell.now.lo c.args.cell.now.hi)) c.in_ok-write_ranges.ensures c.write_whole.ensures)
