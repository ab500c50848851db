use Rattle.std.proofs.Common.{◌≢◌, ◌≤◌, ◌-◌, List, ℕ, ◌++◌, length, take}
use Rattle.rt_sql_cut.specs.Cutter.{StandsAt}
use Rattle.rt_sql_cut.specs.declared.cutter.Place.TheVariants.{End}
use Rattle.rt_sql_cut.proofs.cutter.Cutter.feed.Given as goal

-- no piece has ended so far, and all bytes up to here count
abbrev pub invariant-taken : goal.invariant-taken
invariant-taken l = record {
  within : l.taken ≤ length l.bytes;
  goes_on : l.self.place ≢ End;
  stands : (x : List ℕ) → StandsAt l.initial.self x → StandsAt l.self (x ++ take l.taken l.bytes);
}

abbrev pub decreases-taken : goal.decreases-taken
decreases-taken l = length l.bytes - l.taken
