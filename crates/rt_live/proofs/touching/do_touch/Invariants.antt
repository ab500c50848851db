use Rattle.std.proofs.Common.{◌≡◌, ◌&&◌, drop}
use Rattle.rt_tree_join.specs.Join.{touch}
use Rattle.rt_live.proofs.touching.do_touch.Given as goal

-- the boxes touch if they meet so far, and do on the axes that are left
abbrev pub invariant-loop-axis : goal.invariant-loop-axis
invariant-loop-axis g l = touch l.rect l.other ≡ (l.meets && touch (drop l.axis l.rect) (drop l.axis l.other))
