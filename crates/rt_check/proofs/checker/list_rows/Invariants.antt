use Rattle.std.proofs.Common.{◌≡◌, ◌++◌, drop}
use Rattle.rt_check.specs.declared.problem.Condition.TheVariants.{HasCell}
use Rattle.rt_check.specs.Conditions.{failing, numbered, has_cell}
use Rattle.rt_check.proofs.checker.list_rows.Given as goal

-- what is listed, and what the rest will add, is the whole
abbrev pub invariant-loop-index : goal.invariant-loop-index
invariant-loop-index g l = l.problems.items
    ++ failing (λ r. has_cell l.shadow r.1) (λ r. record { condition = HasCell; node = r.1.leaf; position = r.0 }) (drop l.index (numbered l.shadow.rows))
    ≡ l.initial.problems.items
    ++ failing (λ r. has_cell l.shadow r.1) (λ r. record { condition = HasCell; node = r.1.leaf; position = r.0 }) (numbered l.shadow.rows)
