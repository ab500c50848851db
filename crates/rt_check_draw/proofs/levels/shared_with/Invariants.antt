use Rattle.std.proofs.Common.{◌≡◌, take}
use Rattle.rt_check_draw.specs.Levels.{shared_with}
use Rattle.rt_check_draw.proofs.levels.shared_with.Given as goal

-- the areas shared with the cells so far
abbrev pub invariant-loop-other : goal.invariant-loop-other
invariant-loop-other g l = l.area ≡ shared_with l.axes l.cell (take l.other-index l.others)
