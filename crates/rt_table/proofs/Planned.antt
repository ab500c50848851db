-- A plan, and the steps that are wanted of it.
use Rattle.std.proofs.Common.{List, Result, Ok, Err, IfOk, subst}
use Rattle.rt_sql_statement.specs.declared.refusal.Refusal.{Refusal}
use Rattle.rt_table_row.specs.Edits.{Step, Steps}
use Rattle.rt_table_plan.specs.Plans.{Plans}

-- what holds of the wanted steps holds of those of a plan
pub planned : (P : List Step → Type 0) (wanted : Steps) (given : Result (List Step) Refusal) → Plans wanted given → IfOk wanted P → IfOk given P
planned P wanted (Ok steps) same holds = subst (λ (r : Steps). IfOk r P) same holds
planned P wanted (Err refusal) same holds = tt
