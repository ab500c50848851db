use Rattle.std.proofs.Common.{◌≡◌, length}
use Rattle.rt_box.proofs.Made.{IsMadeBelow}
use Rattle.rt_box.proofs.rect.Rect.new.Given as goal

abbrev pub invariant-loop-axis : goal.invariant-loop-axis
invariant-loop-axis g l = (length l.sides ≡ g.row.D) × IsMadeBelow l.lo l.hi l.sides l.axis
