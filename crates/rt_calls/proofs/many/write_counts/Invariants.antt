use Rattle.std.proofs.Common.{◌≡◌, take, drop}
use Rattle.rt_calls.proofs.many.write_counts.Given as goal

abbrev pub invariant-loop-at : goal.invariant-loop-at
invariant-loop-at l = (take l.at l.buffer ≡ take l.at l.counts) × (drop l.at l.buffer ≡ drop l.at l.initial.buffer)
