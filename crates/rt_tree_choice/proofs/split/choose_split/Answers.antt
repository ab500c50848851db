use Rattle.std.proofs.Common.{arith}
use Rattle.rt_tree_choice.proofs.Partings.{axis-first, axis-takes, axis-keeps, own-axis, best-cut}
use Rattle.rt_tree_choice.proofs.split.choose_split.Goals as goal
use Rattle.rt_tree_choice.proofs.split.choose_split.Goals.{then-judged-best, else-judged-best}

pub loop-axis-init : goal.loop-axis-init
loop-axis-init g c =
    let start = axis-first c.args.boxes.now c.args.capacity c.best_of_axis-best.result c.best_of_axis-best.ensures in
    record { judged = start.0; best_so_far = start.1 }

pub loop-axis-preserved : goal.loop-axis-preserved
loop-axis-preserved g c =
    let boxes = c.args.boxes.now in
    let judged = c.best_of_axis-judged in
    let inv = c.loop-axis.invariant in
    elim c.if-judged-best.branch [
      | then-judged-best w ↦ record {
        judged = rw w.best-is (own-axis boxes c.args.capacity c.loop-axis.axis judged.result judged.ensures);
        best_so_far = rw w.best-is (axis-takes boxes c.args.capacity c.loop-axis.axis c.loop-axis.best judged.result
            inv.judged judged.ensures inv.best_so_far w.if-judged-best.true);
      }
      | else-judged-best w ↦ record {
        judged = rw w.best-is inv.judged;
        best_so_far = rw w.best-is (axis-keeps boxes c.args.capacity c.loop-axis.axis c.loop-axis.best judged.result
            inv.judged judged.ensures inv.best_so_far w.if-judged-best.false);
      }
    ]

pub returns : goal.returns
returns g c =
    best-cut c.args.boxes.now c.args.capacity g.row.D c.loop-axis.axis c.loop-axis.best
    (omega (arith, c.axes-axes.ensures.value, c.axes-axes.ensures.is_box.some, c.loop-axis-test.false))
    c.loop-axis.invariant.judged c.loop-axis.invariant.best_so_far
