use Rattle.std.proofs.Common.{◌≡◌, take}
use Rattle.rt_box.specs.Rect.{margin}
use Rattle.rt_box.proofs.rect.Rect.margin.Given as goal

abbrev pub invariant-loop-axis : goal.invariant-loop-axis
invariant-loop-axis g l = l.margin ≡ margin (take l.axis l.self)
