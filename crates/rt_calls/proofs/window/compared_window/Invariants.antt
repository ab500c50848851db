use Rattle.std.proofs.Common.{◌≡◌, ◌*◌, ◌↔◌, List, length}
use Rattle.rt_box.specs.declared.interval.Interval.{Interval}
use Rattle.rt_box.specs.Rect.{IsBox}
use Rattle.rt_box.specs.Window.{Admits}
use Rattle.rt_calls.proofs.Reaching.{ComparedBelow}
use Rattle.rt_calls.proofs.window.compared_window.Given as goal

abbrev pub invariant-loop-axis : goal.invariant-loop-axis
invariant-loop-axis g l = record {
  long : length l.window ≡ 2 * g.row.D;
  admits : (rect : List Interval) → IsBox g.row.D rect → (Admits l.window rect ↔ ComparedBelow l.first l.second l.axis l.least l.greatest rect);
}
