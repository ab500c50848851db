use Rattle.std.proofs.Common.{rules, arith, FitsSigned, w32, w64, to_z-of_z, ◌-◌, ◌*◌, ◌∙◌}
use Rattle.rt_sql_statement.specs.declared.value.Value.TheVariants.{Null}
use Rattle.rt_table_row.proofs.Places.{coordinate_at, auxiliary_at}
use Rattle.rt_table_row.proofs.entry.RowView.value_at.Goals as goal

pub returns-then-place-axes : goal.returns-then-place-axes
returns-then-place-axes g c =
    let fits : FitsSigned w64 c.from.result = search rules in
    let narrow : FitsSigned w32 c.coordinate.result = search rules in
    rw (to_z-of_z fits, c.from.ensures, to_z-of_z narrow)
    (coordinate_at c.args.self.now.id c.args.self.now.rect c.args.self.now.auxiliary.now c.args.place (c.args.place - 1) c.coordinate.result Null
    (omega arith) (omega (arith, c.axes-axes.ensures.is_box.axes_are)) c.coordinate.ensures)

pub returns : goal.returns
returns g c =
    c.auxiliary_at.ensures
    ∙ auxiliary_at c.args.self.now.id c.args.self.now.rect c.args.self.now.auxiliary.now c.args.place (c.args.place - 1 - 2 * c.axes-axes.result) Null (omega (arith, c.axes-axes.ensures.is_box.axes_are))
