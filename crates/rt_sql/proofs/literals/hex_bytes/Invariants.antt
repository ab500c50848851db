use Rattle.std.proofs.Common.{◌≡◌, ◌-◌, ◌≤◌, ◌++◌, length, drop}
use Rattle.rt_sql.specs.Token.{hex_bytes}
use Rattle.rt_sql.proofs.literals.hex_bytes.Given as goal

abbrev pub invariant-loop-at : goal.invariant-loop-at
invariant-loop-at l = (l.at ≤ length l.digits) × (l.bytes.items ++ hex_bytes (drop l.at l.digits) ≡ hex_bytes l.digits)

abbrev pub decreases-loop-at : goal.decreases-loop-at
decreases-loop-at l = length l.digits - l.at
