use Rattle.std.proofs.Common.{◌≡◌, take}
use Rattle.std.specs.List.{flat_map}
use Rattle.rt_check_draw.specs.Scale.{range_from, nothing}
use Rattle.rt_check_draw.proofs.scale.range_of.Given as goal

-- the range of the nodes so far
abbrev pub invariant-loop-node : goal.invariant-loop-node
invariant-loop-node g l = l.range ≡ range_from nothing (flat_map (λ n. n.cells) (take l.node-index l.shadow.nodes)) l.axis
