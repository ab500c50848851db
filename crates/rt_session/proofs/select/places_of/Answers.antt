use Rattle.std.proofs.Common.{refl, sym, ◌∙◌}
use Rattle.rt_table_row.specs.Columns.{has_name}
use Rattle.rt_table_row.proofs.Filters.{absent}
use Rattle.rt_session.proofs.Columns.{one_fails}
use Rattle.rt_session.proofs.select.places_of.Goals as goal

pub returns-in_default-clause-err : goal.returns-in_default-clause-err
returns-in_default-clause-err c =
    λ other. (
      refl,
      one_fails (has_name c.args.schema.now.names) c.args.names.now c.loop-name.name-index c.name-item.result c.loop-name-test.true c.name-item.is
          (absent c.args.schema.now.names c.name-item.result (sym c.place_of.ensures ∙ c.in_default.is)),
    )
