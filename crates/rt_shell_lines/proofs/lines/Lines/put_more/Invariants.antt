use Rattle.std.proofs.Common.{◌≡◌, ◌++◌, codes, length}
use Rattle.std.specs.List.{flat_map}
use Rattle.rt_shell_lines.specs.Lines.{value_text}
use Rattle.rt_shell_lines.proofs.lines.Lines.put_more.Given as goal

-- the values behind these were put, each behind a bar
abbrev pub invariant-loop-last : goal.invariant-loop-last
invariant-loop-last l = flat_map (λ value. codes "|" ++ value_text value) l.rest ++ l.self ≡ flat_map (λ value. codes "|" ++ value_text value) l.values ++ l.initial.self

abbrev pub decreases-loop-last : goal.decreases-loop-last
decreases-loop-last l = length l.rest
