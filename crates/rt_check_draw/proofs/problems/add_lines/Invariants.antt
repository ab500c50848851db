use Rattle.std.proofs.Common.{◌≡◌, ◌++◌, take}
use Rattle.std.specs.List.{flat_map}
use Rattle.rt_check_draw.specs.Problems.{problem_line}
use Rattle.rt_check_draw.proofs.problems.add_lines.Given as goal

-- the lines of the problems so far are added
abbrev pub invariant-loop-problem : goal.invariant-loop-problem
invariant-loop-problem l = l.text.items ≡ l.initial.text.items ++ flat_map problem_line (take l.problem-index l.problems)
