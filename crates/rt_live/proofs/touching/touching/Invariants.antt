use Rattle.std.proofs.Common.{◌≡◌, ◌*◌, length}
use Rattle.rt_tree_join.proofs.Boxes.{TouchesBelow}
use Rattle.rt_live.proofs.touching.touching.Given as goal

-- the window admits the boxes that meet this one on the axes so far
abbrev pub invariant-loop-axis : goal.invariant-loop-axis
invariant-loop-axis g l = record {
  long : length l.window ≡ 2 * g.row.D;
  touches : TouchesBelow g.row.D l.axis l.rect l.window;
}
