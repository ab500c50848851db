use Rattle.std.proofs.Common.{◌≡◌, ◌+◌, ◌-◌, ◌≤◌, length, drop}
use Rattle.std.specs.List.{prefix_len}
use Rattle.rt_sql.specs.Class.{is_in}
use Rattle.rt_sql.proofs.lexer.prefix_len.Given as goal

abbrev pub invariant-loop-end : goal.invariant-loop-end
invariant-loop-end l = (l.end + prefix_len (is_in l.class) (drop l.end l.text) ≡ prefix_len (is_in l.class) l.text) × (l.end ≤ length l.text)

abbrev pub decreases-loop-end : goal.decreases-loop-end
decreases-loop-end l = length l.text - l.end
