-- Why a table is ready for the steps of each statement. Source: own.
use Rattle.std.specs.Prelude.{List, IfOk}
use Rattle.rt_sql_statement.specs.declared.statement.Edit.{Edit}
use Rattle.rt_table_row.specs.Columns.{Columns}
use Rattle.rt_table_row.specs.Rows.{TableRow, AreRising}
use Rattle.rt_table_row.specs.Edits.{steps_of}
use Rattle.rt_table_step.specs.Steps.{ApplyTo}

-- The steps of an edit apply to the rows, one after the other.
abbrev pub StepsApply : Type 0
StepsApply =
    (columns : Columns) (rows : List TableRow) → AreRising rows → (edit : Edit) → IfOk (steps_of edit columns rows) (ApplyTo columns rows)
