use Rattle.std.proofs.Common.{◌≤◌, ◌-◌, All, take, length}
use Rattle.rt_box.specs.Bits.{Tells}
use Rattle.rt_box.specs.Rect.{IsBox}
use Rattle.rt_box.specs.Window.{Admits}
use Rattle.rt_box.proofs.window.Window.tell_fours.Given as goal

-- the bits tell of the boxes before `at`
abbrev pub invariant-loop-at : goal.invariant-loop-at
invariant-loop-at g l = record {
  within : l.at ≤ length l.rects;
  told : Tells (Admits l.self) (take l.at l.rects) l.bits;
  boxes : All (IsBox g.row.D) (take l.at l.rects);
}

abbrev pub decreases-loop-at : goal.decreases-loop-at
decreases-loop-at g l = length l.rects - l.at
