use Rattle.std.proofs.Common.{◌≡◌, length, take}
use Rattle.rt_box.specs.Rect.{los}
use Rattle.rt_box.proofs.rect.Rect.lo.Given as goal

abbrev pub invariant-loop-axis : goal.invariant-loop-axis
invariant-loop-axis g l = (length l.lo ≡ g.row.D) × (take l.axis l.lo ≡ take l.axis (los l.self))
