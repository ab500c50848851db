use Rattle.std.proofs.Common.{get_or, subst, arith}
use Rattle.std.specs.List.{All}
use Rattle.std.proofs.lemmas.List.{take_all}
use Rattle.std.proofs.lemmas.List.Elements.{All-more}
use Rattle.rt_check_dump.specs.InRange.{IsCellInRange}
use Rattle.rt_check_dump.proofs.looks.look_at_cells.Goals as goal

pub loop-cell-preserved : goal.loop-cell-preserved
loop-cell-preserved g c =
    let here : IsCellInRange (get_or c.args.cells.now c.loop-cell.cell-index c.cell-item.result) = subst IsCellInRange c.cell-item.is c.look_at_cell.ensures in
    All-more IsCellInRange c.args.cells.now c.loop-cell.cell-index c.cell-item.result (omega (arith, c.loop-cell-test.true)) c.loop-cell.invariant here

pub returns : goal.returns
returns g c =
    let whole = take_all c.loop-cell.cell-index c.args.cells.now (omega (arith, c.loop-cell-test.false)) in
    subst (All IsCellInRange) whole c.loop-cell.invariant
