use Rattle.std.proofs.Common.{◌≡◌, ◌++◌, codes, length}
use Rattle.std.specs.List.{flat_map}
use Rattle.std.specs.Fmt.{signed_decimal}
use Rattle.rt_shell_lines.proofs.lines.Lines.put_more_numbers.Given as goal

-- the numbers behind these were put, each behind a bar
abbrev pub invariant-loop-last : goal.invariant-loop-last
invariant-loop-last l = flat_map (λ number. codes "|" ++ signed_decimal number) l.rest ++ l.self ≡ flat_map (λ number. codes "|" ++ signed_decimal number) l.numbers ++ l.initial.self

abbrev pub decreases-loop-last : goal.decreases-loop-last
decreases-loop-last l = length l.rest
