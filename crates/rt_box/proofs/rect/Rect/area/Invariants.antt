use Rattle.std.proofs.Common.{◌≡◌, take}
use Rattle.rt_box.specs.Rect.{area}
use Rattle.rt_box.proofs.rect.Rect.area.Given as goal

abbrev pub invariant-loop-axis : goal.invariant-loop-axis
invariant-loop-axis g l = l.area ≡ area (take l.axis l.self)
