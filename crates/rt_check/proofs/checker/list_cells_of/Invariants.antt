use Rattle.std.proofs.Common.{◌≡◌, ◌++◌, drop}
use Rattle.rt_check.specs.Conditions.{failing, numbered, cell_problems_of}
use Rattle.rt_check.specs.ProblemLists.{condition_of, meets_condition}
use Rattle.rt_check.proofs.checker.list_cells_of.Given as goal

-- what is listed, and what the rest will add, is the whole
abbrev pub invariant-loop-index : goal.invariant-loop-index
invariant-loop-index g l = l.problems.items
    ++ failing (λ c. meets_condition l.shadow l.condition l.node c.1)
    (λ c. record { condition = condition_of l.condition; node = l.node.number; position = c.0 }) (drop l.index (numbered l.node.cells))
    ≡ l.initial.problems.items ++ cell_problems_of (condition_of l.condition) (meets_condition l.shadow l.condition) l.node
