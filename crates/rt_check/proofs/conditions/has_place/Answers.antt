use Rattle.std.proofs.Common.{rules}
use Rattle.rt_check.proofs.conditions.has_place.Goals as goal

pub returns-then-is_below : goal.returns-then-is_below
returns-then-is_below g c = search rules
