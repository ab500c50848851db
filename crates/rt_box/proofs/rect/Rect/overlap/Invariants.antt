use Rattle.std.proofs.Common.{◌≡◌, take}
use Rattle.rt_box.specs.Rect.{area, common_box}
use Rattle.rt_box.proofs.rect.Rect.overlap.Given as goal

abbrev pub invariant-loop-axis : goal.invariant-loop-axis
invariant-loop-axis g l = l.area ≡ area (take l.axis (common_box l.self l.other))
