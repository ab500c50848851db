use Rattle.std.proofs.Common.{◌≡◌, ◌++◌, drop}
use Rattle.rt_check.specs.declared.problem.Condition.TheVariants.{IsFilled}
use Rattle.rt_check.specs.Conditions.{failing, is_filled}
use Rattle.rt_check.proofs.checker.list_unfilled.Given as goal

-- what is listed, and what the rest will add, is the whole
abbrev pub invariant-loop-node : goal.invariant-loop-node
invariant-loop-node g l = l.problems.items
    ++ failing (is_filled l.shadow) (λ n. record { condition = IsFilled; node = n.number; position = 0 }) (drop l.node-index l.shadow.nodes)
    ≡ l.initial.problems.items
    ++ failing (is_filled l.shadow) (λ n. record { condition = IsFilled; node = n.number; position = 0 }) l.shadow.nodes
