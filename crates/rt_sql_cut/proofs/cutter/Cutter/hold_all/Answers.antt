use Rattle.std.proofs.Common.{rules, arith}
use Rattle.rt_sql_cut.proofs.CutterHolds.{bytes_none, bytes_short, bytes_long}
use Rattle.rt_sql_cut.proofs.cutter.Cutter.hold_all.Goals as goal

pub invariant_of-self-then-not-self : goal.invariant_of-self-then-not-self
invariant_of-self-then-not-self c = search rules

pub returns-then-not-self : goal.returns-then-not-self
returns-then-not-self c = grind (arith, bytes_none, bytes_short, bytes_long)
