use Rattle.std.proofs.Common.{◌≡◌, ℕ, ◌<◌, get_or, false}
use Rattle.std.specs.Prelude.{◌==◌}
use Rattle.rt_check_dump.proofs.pieces.place_of.Given as goal

-- the byte doesn't stand before
abbrev pub invariant-loop-index : goal.invariant-loop-index
invariant-loop-index l = (k : ℕ) → k < l.index → (get_or l.text k 0 == l.byte) ≡ false
