use Rattle.std.proofs.Common.{take}
use Rattle.std.specs.List.{All}
use Rattle.rt_check_dump.specs.InRange.{IsNodeInRange}
use Rattle.rt_check_dump.proofs.looks.look_at_nodes.Given as goal

-- the nodes so far are in range
abbrev pub invariant-loop-node : goal.invariant-loop-node
invariant-loop-node g l = All IsNodeInRange (take l.node-index l.nodes)
