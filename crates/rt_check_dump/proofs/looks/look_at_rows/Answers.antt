use Rattle.std.proofs.Common.{subst, arith, pos}
use Rattle.std.specs.List.{All}
use Rattle.std.proofs.lemmas.List.{take_all}
use Rattle.std.proofs.lemmas.List.Elements.{All-more}
use Rattle.rt_check.specs.declared.node.RowEntry.{RowEntry}
use Rattle.rt_check_dump.specs.InRange.{IsRowInRange}
use Rattle.rt_check_dump.proofs.looks.look_at_rows.Goals as goal

pub loop-row-preserved : goal.loop-row-preserved
loop-row-preserved c =
    let d : RowEntry = record { id = pos 0; leaf = pos 0 } in
    All-more IsRowInRange c.args.rows.now c.loop-row.row-index d (omega (arith, c.loop-row-test.true)) c.loop-row.invariant c.look_at_row.ensures

pub returns : goal.returns
returns c =
    let whole = take_all c.loop-row.row-index c.args.rows.now (omega (arith, c.loop-row-test.false)) in
    subst (All IsRowInRange) whole c.loop-row.invariant
