use Rattle.std.proofs.Common.{◌≡◌, ℕ, ◌<◌, ◌≤◌, length, get_or}
use Rattle.rt_box.specs.declared.window.Ends.{Ends}
use Rattle.rt_box.specs.Ends.{HasCore}
use Rattle.rt_box.proofs.window.Window.core.Given as goal

-- the axes so far have their core, and the others what they had
abbrev pub invariant-loop-axis : goal.invariant-loop-axis
invariant-loop-axis g l =
    (length l.axes ≡ g.row.D) × ((i : ℕ) (e r : Ends) → i < l.axis → HasCore (get_or l.initial.axes i e) (get_or l.axes i r))
    × ((i : ℕ) (e : Ends) → l.axis ≤ i → get_or l.axes i e ≡ get_or l.initial.axes i e)
