use Rattle.std.proofs.Common.{◌≡◌, take}
use Rattle.rt_check.specs.Tally.{tallies, cells_naming}
use Rattle.rt_check.proofs.tally.tally.Given as goal

-- the nodes so far are counted
abbrev pub invariant-loop-node : goal.invariant-loop-node
invariant-loop-node g l = l.counts.items ≡ tallies l.numbers.keys (cells_naming l.named (take l.node-index l.shadow.nodes))
