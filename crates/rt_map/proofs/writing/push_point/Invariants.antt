use Rattle.std.proofs.Common.{◌≡◌, ◌++◌, take}
use Rattle.std.specs.List.{flat_map}
use Rattle.rt_map.specs.TreeBytes.{short_bytes}
use Rattle.std.specs.Prelude.{All, FitsSigned}
use Rattle.std.specs.Int.{w32}
use Rattle.rt_map.proofs.writing.push_point.Given as goal

abbrev pub invariant-loop-coordinate : goal.invariant-loop-coordinate
invariant-loop-coordinate g l = record {
  bytes : l.bytes.items ≡ l.fn.bytes.items ++ flat_map short_bytes (take l.coordinate-index l.point);
  written : All (FitsSigned w32) (take l.coordinate-index l.point);
}
