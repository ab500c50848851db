use Rattle.std.proofs.Common.{◌≡◌, ℕ, ◌<◌, length, get_or}
use Rattle.rt_box.specs.declared.interval.Interval.{Interval}
use Rattle.rt_box.specs.declared.window.Ends.{Ends}
use Rattle.rt_box.specs.Ends.{AreAround}
use Rattle.rt_box.proofs.window.Window.around.Given as goal

-- the ends so far are around the box's sides
abbrev pub invariant-loop-axis : goal.invariant-loop-axis
invariant-loop-axis g l =
    (length l.axes ≡ g.row.D) × ((i : ℕ) (e : Ends) (d : Interval) → i < l.axis → AreAround (get_or l.rect i d) (get_or l.axes i e))
