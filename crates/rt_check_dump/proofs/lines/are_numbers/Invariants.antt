use Rattle.std.proofs.Common.{◌≡◌, ◌-◌}
use Rattle.rt_check_dump.specs.Lines.{are_numbers}
use Rattle.rt_check_dump.proofs.lines.are_numbers.Given as goal

-- the words left are the numbers left to come exactly where all of them are the numbers
abbrev pub invariant-loop-turn : goal.invariant-loop-turn
invariant-loop-turn l = are_numbers (l.count - l._turn) l.words ≡ are_numbers l.count l.initial.words
