use Rattle.std.proofs.Common.{take}
use Rattle.std.specs.List.{All}
use Rattle.rt_check_dump.specs.InRange.{IsInt}
use Rattle.rt_check_dump.proofs.looks.look_at_coordinates.Given as goal

-- the coordinates so far are in range
abbrev pub invariant-loop-coordinate : goal.invariant-loop-coordinate
invariant-loop-coordinate l = All IsInt (take l.coordinate-index l.coordinates)
