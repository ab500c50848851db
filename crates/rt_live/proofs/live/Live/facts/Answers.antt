use Rattle.std.proofs.Common.{subst}
use Rattle.rt_tree.specs.Lists.{rows_of}
use Rattle.rt_live.specs.Rows.{AreRising}
use Rattle.rt_live.specs.Live.{LiveState}
use Rattle.rt_live.proofs.ById.{by_id-rising}
use Rattle.rt_live.proofs.live.Live.facts.Goals as goal

pub returns-clause-rows : goal.returns-clause-rows
returns-clause-rows g c = subst (λ (v : LiveState g.row.D). AreRising v.lists.rows) c.self.view_is (by_id-rising (rows_of c.self.inside.rows.lists))

pub returns-clause-windows : goal.returns-clause-windows
returns-clause-windows g c = subst (λ (v : LiveState g.row.D). AreRising v.lists.windows) c.self.view_is (by_id-rising (rows_of c.self.inside.windows.lists))
