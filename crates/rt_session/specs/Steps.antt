-- What a call that may run out of memory does (own).
use Rattle.std.specs.Prelude.{◌≡◌, ◌≢◌, List, Result, Ok, Err, MatchResult}
use Rattle.rt_sql_statement.specs.declared.refusal.Refusal.{Refusal}
use Rattle.rt_sql_statement.specs.declared.refusal.Refusal.TheVariants.{OutOfMemory}
use Rattle.rt_sql_statement.specs.declared.statement.Edit.{Edit}
use Rattle.rt_sql_statement.specs.declared.value.Value.{Value}
use Rattle.rt_table_row.specs.Edits.{steps_of}
use Rattle.rt_table_row.specs.Tables.{TableLists, edited}
use Rattle.rt_table_row.specs.Views.{ViewChange}
use Rattle.rt_reply.specs.declared.reply.Reply.{Reply}
use Rattle.rt_reply.specs.declared.reply.Reply.TheVariants.{Rows}

-- Ok is the rows of the reply that was expected. A refusal is the one expected or `OutOfMemory`.
abbrev pub ShowsRows : Result Reply Refusal → Result (List (List Value)) Refusal → Type 0
ShowsRows expected r =
    MatchResult r (λ rows. expected ≡ Ok (Rows rows)) (λ refusal. refusal ≢ OutOfMemory → expected ≡ Err refusal)

-- the changes of its views that are shown, and the table afterwards
abbrev pub edit_result : Edit → TableLists → Result (List ViewChange × TableLists) Refusal
edit_result edit t = edited t (steps_of edit t.columns t.rows)
