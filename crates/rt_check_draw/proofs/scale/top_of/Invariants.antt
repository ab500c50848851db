use Rattle.std.proofs.Common.{◌≡◌, take}
use Rattle.rt_check_draw.specs.Scale.{top_of}
use Rattle.rt_check_draw.proofs.scale.top_of.Given as goal

-- the highest level so far
abbrev pub invariant-loop-node : goal.invariant-loop-node
invariant-loop-node g l = l.top ≡ top_of (take l.node-index l.shadow.nodes)
