-- What an edit does to a table. Source: own.
use Rattle.std.specs.Prelude.{◌≡◌, ℕ, ℤ, Bool, false, List, [], Result, Ok, IfOk, OnOk}
use Rattle.rt_check.specs.Shadow.{ShadowLists}
use Rattle.rt_check_dump.specs.declared.dump.AnyShadow.{AnyShadow}
use Rattle.rt_sql_statement.specs.declared.refusal.Refusal.{Refusal}
use Rattle.rt_sql_statement.specs.declared.statement.Test.{Test}
use Rattle.rt_sql_statement.specs.declared.statement.Edit.{Edit}
use Rattle.rt_sql_statement.specs.declared.statement.Edit.TheVariants.{Delete}
use Rattle.rt_table_row.specs.Rows.{TableRow}
use Rattle.rt_table_row.specs.Filters.{is_by_id}
use Rattle.rt_table_row.specs.Edits.{Step, Steps, steps_of, outcome, leaving}
use Rattle.rt_table_row.specs.Views.{ViewChange, deltas}
use Rattle.rt_table_row.specs.Tables.{TableLists, edited}
use Rattle.rt_table_store.specs.Trees.{FollowsSteps}
use Rattle.rt_table.specs.AnyTrees.{FollowsIfTaken}

-- the steps of an edit, or its refusal
abbrev pub edit_steps : Edit → TableLists → Steps
edit_steps edit lists = steps_of edit lists.columns lists.rows

-- the changes of the views that an edit shows, and the table after it, or its refusal
abbrev pub edit_outcome : Edit → TableLists → Result (List ViewChange × TableLists) Refusal
edit_outcome edit lists = edited lists (edit_steps edit lists)

-- the table after steps
abbrev pub lists_after : TableLists → List Step → TableLists
lists_after lists steps = record lists { rows = outcome lists.rows steps }

-- what changes in the table's views as its rows become these
abbrev pub changes_to : TableLists → List TableRow → List ViewChange
changes_to lists rows = deltas lists.columns lists.views lists.rows rows

-- the steps in which the row of an id goes, if there is one
abbrev pub removal : TableLists → ℤ → List Step
removal lists id = leaving lists.rows id

-- if the edit is taken, a tree follows its steps
abbrev pub FollowsEdit : {D : ℕ} → Edit → TableLists → ShadowLists D → ShadowLists D → Type 0
FollowsEdit edit lists old new = IfOk (edit_steps edit lists) (λ steps. FollowsSteps lists.rows steps old new)

abbrev pub FollowsAnyEdit : Edit → TableLists → AnyShadow → AnyShadow → Type 0
FollowsAnyEdit edit lists old new = FollowsIfTaken lists.rows (edit_steps edit lists) old new

-- a DELETE by id alone from a table without views needs no plan
abbrev pub NeedsPlan : Edit → TableLists → Type 0
NeedsPlan edit lists = (cond : List Test) → edit ≡ Delete cond → lists.views ≡ [] → is_by_id lists.columns cond ≡ false
