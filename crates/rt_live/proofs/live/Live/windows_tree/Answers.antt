use Rattle.std.proofs.Common.{ap}
use Rattle.rt_live.specs.Live.{LiveState}
use Rattle.rt_live.proofs.live.Live.windows_tree.Goals as goal

pub returns : goal.returns
returns g c = ap (λ (v : LiveState g.row.D). v.lists.windows) c.self.view_is
