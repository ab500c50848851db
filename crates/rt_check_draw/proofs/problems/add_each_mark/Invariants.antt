use Rattle.std.proofs.Common.{◌≡◌, ◌++◌, take}
use Rattle.std.specs.List.{flat_map}
use Rattle.rt_check_draw.specs.Problems.{marks_of}
use Rattle.rt_check_draw.proofs.problems.add_each_mark.Given as goal

-- the boxes of the problems so far are added
abbrev pub invariant-loop-problem : goal.invariant-loop-problem
invariant-loop-problem g l = l.text.items ≡ l.initial.text.items ++ flat_map (marks_of l.frame l.shadow.nodes) (take l.problem-index l.problems)
