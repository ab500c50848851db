use Rattle.std.proofs.Common.{◌≡◌, length, take}
use Rattle.rt_box.specs.Rect.{his}
use Rattle.rt_box.proofs.rect.Rect.hi.Given as goal

abbrev pub invariant-loop-axis : goal.invariant-loop-axis
invariant-loop-axis g l = (length l.hi ≡ g.row.D) × (take l.axis l.hi ≡ take l.axis (his l.self))
