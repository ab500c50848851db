use Rattle.std.proofs.Common.{◌≡◌, ◌++◌, drop}
use Rattle.rt_check.specs.Conditions.{cell_problems}
use Rattle.rt_check.specs.ProblemLists.{condition_of, meets_condition}
use Rattle.rt_check.proofs.checker.list_cells.Given as goal

-- what is listed, and what the rest will add, is the whole
abbrev pub invariant-loop-node : goal.invariant-loop-node
invariant-loop-node g l = l.problems.items
    ++ cell_problems (condition_of l.condition) (meets_condition l.shadow l.condition) (drop l.node-index l.shadow.nodes)
    ≡ l.initial.problems.items ++ cell_problems (condition_of l.condition) (meets_condition l.shadow l.condition) l.shadow.nodes
