use Rattle.std.proofs.Common.{◌≡◌, ◌++◌, drop}
use Rattle.rt_check.specs.declared.problem.Condition.TheVariants.{HasPlace}
use Rattle.rt_check.specs.Conditions.{failing, has_place}
use Rattle.rt_check.proofs.checker.list_misplaced.Given as goal

-- what is listed, and what the rest will add, is the whole
abbrev pub invariant-loop-index : goal.invariant-loop-index
invariant-loop-index g l = l.problems.items
    ++ failing (has_place l.shadow) (λ n. record { condition = HasPlace; node = n.number; position = 0 }) (drop l.index l.shadow.nodes)
    ≡ l.initial.problems.items
    ++ failing (has_place l.shadow) (λ n. record { condition = HasPlace; node = n.number; position = 0 }) l.shadow.nodes
