use Rattle.std.proofs.Common.{◌≡◌, ℕ, ◌+◌, ◌*◌, ◌<◌, ℤ, pos, List, length, get_or, drop}
use Rattle.std.specs.Prelude.{All, FitsSigned}
use Rattle.std.specs.Int.{w32}
use Rattle.std.specs.List.{flat_map}
use Rattle.rt_map.specs.TreeBytes.{short_bytes}
use Rattle.rt_map.proofs.reading.read_point.Given as goal

abbrev pub invariant-loop-axis : goal.invariant-loop-axis
invariant-loop-axis g l = record {
  left : length l.left + 4 * l.axis ≡ 4 * g.row.D;
  long : length l.point ≡ g.row.D;
  read : (point : List ℤ) → length point ≡ g.row.D → All (FitsSigned w32) point → l.fn.bytes ≡ flat_map short_bytes point →
      (l.left ≡ flat_map short_bytes (drop l.axis point)) × ((k : ℕ) → k < l.axis → get_or l.point k (pos 0) ≡ get_or point k (pos 0));
}
