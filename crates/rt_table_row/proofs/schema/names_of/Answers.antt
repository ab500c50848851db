use Rattle.std.proofs.Common.{map, ap, ◌∙◌}
use Rattle.std.proofs.lemmas.List.{take_all}
use Rattle.rt_sql_statement.specs.declared.statement.ColumnDef.{ColumnDef}
use Rattle.rt_table_row.proofs.Stepwise.{mapped-more}
use Rattle.rt_table_row.proofs.schema.names_of.Goals as goal

pub loop-column-preserved : goal.loop-column-preserved
loop-column-preserved c =
    mapped-more c.args.columns.now c.loop-column.column-index c.column-item.result c.loop-column-test.true c.column-item.is (λ (x : ColumnDef). x.name)
    c.in_ok-try_clone.field-0 c.loop-column.names.items c.push.new.self.items c.loop-column.invariant c.in_ok-push.ensures.items c.in_ok-try_clone.ensures

pub returns : goal.returns
returns c = c.loop-column.invariant ∙ ap (map (λ (x : ColumnDef). x.name)) (take_all c.loop-column.column-index c.args.columns.now c.loop-column-test.false)
