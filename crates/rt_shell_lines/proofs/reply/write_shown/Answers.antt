use Rattle.std.proofs.Common.{◌≡◌, refl, map}
use Rattle.rt_reply.specs.Rows.{values_in, values_at}
use Rattle.rt_shell_lines.proofs.Columns.{column_lines}
use Rattle.rt_shell_lines.proofs.reply.write_shown.Goals as goal

pub returns-in-Some : goal.returns-in-Some
returns-in-Some g c =
    let rows = values_in c.shown.inside.rows in
    let same : map (values_at c.as_slice.result.now) rows ≡ c.args.shown.now = rw (← c.shown.view_is, c.in-Some.is, c.as_slice.ensures.value) refl in
    rw (← (column_lines c.as_slice.result.now rows c.args.shown.now same)) c.write_columns.ensures
