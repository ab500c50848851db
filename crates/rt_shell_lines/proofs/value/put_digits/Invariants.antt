use Rattle.std.proofs.Common.{◌≡◌, ◌*◌, take}
use Rattle.std.specs.List.{flat_map}
use Rattle.rt_shell_lines.specs.Lines.{hex_pair}
use Rattle.rt_shell_lines.proofs.value.put_digits.Given as goal

-- the digits of the bytes before this one are put
abbrev pub invariant-loop-place : goal.invariant-loop-place
invariant-loop-place l = take (2 * l.place) l.digits ≡ flat_map hex_pair (take l.place l.bytes)
