use Rattle.std.proofs.Common.{arith, lit<}
use Rattle.rt_table_row.specs.Filters.{admits}
use Rattle.rt_table_store.proofs.Standing.{all_found}
use Rattle.rt_table_view.proofs.view.rows_of.Goals as goal

pub answered-requires : goal.answered-requires
answered-requires g c = (
  lit< tt,
  (
    omega arith,
    (lit< tt, all_found g.row.D (admits c.args.view.now.filter) c.args.store.now.rows c.in_ok-found.found.items c.facts.ensures.rising c.in_ok-found.ensures),
  ),
)

pub returns : goal.returns
returns g c = c.in_ok-rows.ensures (admits c.args.view.now.filter) c.in_ok-found.ensures
