use Rattle.std.proofs.Common.{rules}
use Rattle.rt_sql_cut.proofs.cutter.Cutter.hold.Goals as goal

pub invariant_of-self-then-not-self : goal.invariant_of-self-then-not-self
invariant_of-self-then-not-self c = search rules

pub returns-then-not-self : goal.returns-then-not-self
returns-then-not-self c = search rules
