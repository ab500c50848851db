use Rattle.std.proofs.Common.{arith}
use Rattle.std.proofs.lemmas.Int.{ints}
use Rattle.rt_calls.proofs.Reaching.{admits_none}
use Rattle.rt_calls.proofs.window.empty_window.Goals as goal

pub returns : goal.returns
returns g c rect is = admits_none g.row.D _ c.all-window.result c.narrow.new.self rect c.requires c.all-window.ensures c.narrow.ensures (omega (arith, ints, c.from.ensures)) is
