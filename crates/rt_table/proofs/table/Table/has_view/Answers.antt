use Rattle.std.proofs.Common.{sym, ◌∙◌}
use Rattle.rt_table_row.specs.Tables.{is_view}
use Rattle.rt_table_view.specs.Watching.{view_of}
use Rattle.rt_table.proofs.Viewing.{any_mapped}
use Rattle.rt_table.proofs.table.Table.has_view.Goals as goal

pub returns : goal.returns
returns g c =
    rw (← c.self.view_is) (c.has_view.ensures ∙ rw c.as_slice.ensures.value (sym (any_mapped (is_view c.args.name.now) view_of c.self.inside.views.items)))
