use Rattle.std.proofs.Common.{arith}
use Rattle.rt_check_draw.specs.Legend.{row_text}
use Rattle.rt_check_draw.proofs.Drawn.{appended}
use Rattle.rt_check_draw.proofs.legend.add_rows.Goals as goal

pub loop-row-preserved : goal.loop-row-preserved
loop-row-preserved c =
    appended (row_text c.args.top c.args.capacity) _ _ _ c.args.rows.now c.loop-row.row-index _ (omega arith) c.loop-row.invariant c.in_ok-add_row.ensures
