use Rattle.std.proofs.Common.{ap, ◌∙◌}
use Rattle.rt_live.specs.Live.{LiveState}
use Rattle.rt_live.proofs.live.Live.changes.Goals as goal

pub returns : goal.returns
returns g c = c.as_slice.ensures.value ∙ ap (λ (v : LiveState g.row.D). v.lists.changes) c.self.view_is
