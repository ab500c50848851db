use Rattle.std.proofs.Common.{◌≡◌, take, drop}
use Rattle.rt_calls.specs.Numbers.{ids_of}
use Rattle.rt_calls.proofs.numbers.write_ids.Given as goal

abbrev pub invariant-loop-at : goal.invariant-loop-at
invariant-loop-at g l = (take l.at l.buffer ≡ ids_of (take l.at l.rows)) × (drop l.at l.buffer ≡ drop l.at l.initial.buffer)
