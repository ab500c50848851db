-- A number without its lowest bit.
use Rattle.std.proofs.Common.{◌≢◌, ℕ, ◌-◌, ◌<◌, arith}
use Rattle.std.specs.Int.Bits.{bit_and}
use lib.Bits.{and_le_r}

pub without-lower : (n : ℕ) → n ≢ 0 → bit_and n (n - 1) < n
without-lower n some = omega (arith, and_le_r n (n - 1))
