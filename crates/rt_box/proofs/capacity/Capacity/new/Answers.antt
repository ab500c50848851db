use Rattle.std.proofs.Common.{rules}
use Rattle.rt_box.proofs.capacity.Capacity.new.Goals as goal

pub invariant_of-result : goal.invariant_of-result
invariant_of-result c = search rules

pub returns-then-greatest-le51-clause-valid : goal.returns-then-greatest-le51-clause-valid
returns-then-greatest-le51-clause-valid c = search rules
