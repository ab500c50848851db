use Rattle.std.proofs.Common.{arith, lit<}
use Rattle.rt_table_row.specs.Filters.{admits}
use Rattle.rt_table_store.proofs.Standing.{all_found}
use Rattle.rt_table_view.proofs.view.select.Goals as goal

pub answered-requires : goal.answered-requires
answered-requires g c = (
  lit< tt,
  (
    omega arith,
    (lit< tt, all_found g.row.D (admits c.args.condition.now) c.args.store.now.rows c.in_ok-found.found.rows.items c.facts.ensures.rising c.in_ok-found.ensures.rows),
  ),
)

pub returns-clause-rows : goal.returns-clause-rows
returns-clause-rows g c = c.in_ok-rows.ensures (admits c.args.condition.now) c.in_ok-found.ensures.rows
