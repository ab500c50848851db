use Rattle.std.proofs.Common.{◌≡◌, take}
use Rattle.rt_box.specs.Hull.{hull}
use Rattle.rt_box.proofs.hull.hull_of.Given as goal

abbrev pub invariant-loop-place : goal.invariant-loop-place
invariant-loop-place g l = l.hull ≡ hull (take l.place l.boxes)
