use Rattle.std.proofs.Common.{ap, ◌∙◌}
use Rattle.std.specs.List.{list_any}
use Rattle.std.specs.Ordering.{int_eq}
use Rattle.rt_table_view.proofs.Rising.{any_listed}
use Rattle.rt_table_view.proofs.changes.rising_ids.Goals as goal

pub returns-clause-rising : goal.returns-clause-rising
returns-clause-rising g c = rw c.in_ok-ids.ensures c.ids_rise.ensures

pub returns-clause-all : goal.returns-clause-all
returns-clause-all g c = λ q. ap (list_any (int_eq q)) c.in_ok-ids.ensures ∙ any_listed c.args.fates.now q
