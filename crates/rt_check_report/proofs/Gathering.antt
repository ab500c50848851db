-- What a loop keeps that reads all bytes.
use Rattle.std.proofs.Common.{◌≡◌, ◌∙◌, ℕ, ◌+◌, ◌^◌, ◌<◌, ◌≤◌, List, [], ◌++◌, length, refl, ap, inl, inr, arith, append-nil, length-append}
use native.Mathlib.Nat.{le_antisymm}
use Rattle.std.specs.Io.KnownBytes.{Consumes, IsAtEnd}
use Rattle.rt_bytes.specs.Bytes.{one_more}
use Rattle.rt_bytes.specs.Devices.{Source, most_reads}
use Rattle.rt_check_report.specs.CheckRun.{NoEnd, AllRead}
use Rattle.rt_bytes.proofs.Consuming.{Consumes-trans, Consumes-none, always, too_long}

pub record Gathering (old now : Source) (bytes : List ℕ) (turn : ℕ) : Type 0 where
  pub consumed : Consumes old.left now.left bytes
  pub many : turn ≤ length bytes
  pub no_failure : now.failures ≡ old.failures
  pub reads : now.reads ≤ old.reads + turn
  pub exact : old.reads < 2 ^ 63 → now.reads ≡ old.reads + turn

pub gathering_starts : (now : Source) → Gathering now now [] 0
gathering_starts now = record {
  consumed = Consumes-none now.left;
  many = omega arith;
  no_failure = refl;
  reads = omega arith;
  exact = λ small. omega arith;
}

-- Counts of a turn, over variables, so that no goal of the code is a search over all that is known there.
pub some-more : (count : ℕ) (more : List ℕ) → count ≡ length more → (count ≡ 0 → ⊥) → 0 < length more
some-more count more long some = omega (arith, long, some)

pub reads-within : (old now new turn : ℕ) → now ≤ old + turn → new ≡ one_more now → turn < most_reads → new ≤ old + most_reads
reads-within old now new turn before more within = omega (arith, before, more, within)

pub reads-at-end : (old now turn : ℕ) → now ≤ old + turn → turn ≤ most_reads → now ≤ old + most_reads
reads-at-end old now turn before end = omega (arith, before, end)

module _ (old now : Source) (bytes : List ℕ) (turn : ℕ) (so_far : Gathering old now bytes turn) where
  pub gather_fails : (new : Source) → new.failures ≡ one_more now.failures → NoEnd old new
  gather_fails new failed = record {
    why = inl (failed ∙ ap one_more so_far.no_failure);
    short = always _ old.left (failed ∙ ap one_more so_far.no_failure);
  }

  pub gather_runs_out : turn ≤ most_reads → most_reads ≤ turn → NoEnd old now
  gather_runs_out below above =
      let last : turn ≡ most_reads = le_antisymm below above in
      record {
        why = inr (so_far.no_failure, λ small. so_far.exact small ∙ ap (λ n. old.reads + n) last);
        short = too_long _ old.left now.left bytes so_far.consumed (rw last at so_far.many);
      }

  pub gather_on : (new : Source) (more after : List ℕ) → after ≡ bytes ++ more → Consumes now.left new.left more → new.failures ≡ now.failures → new.reads ≡ one_more now.reads
      → 0 < length more → turn < most_reads → Gathering old new after (turn + 1)
  gather_on new more after is came no_failure reads some within = record {
    consumed = rw is (Consumes-trans old.left now.left new.left bytes more so_far.consumed came);
    many = rw is (omega (arith, so_far.many, length-append bytes more));
    no_failure = no_failure ∙ so_far.no_failure;
    reads = omega (arith, so_far.reads, reads);
    exact = λ small. omega (arith, so_far.exact small, reads, within, small);
  }

  pub gather_ends : (new : Source) → Consumes now.left new.left [] → IsAtEnd new.left → new.failures ≡ now.failures → AllRead old new bytes
  gather_ends new came at_end no_failure = record {
    consumed = rw (append-nil bytes) at (Consumes-trans old.left now.left new.left bytes [] so_far.consumed came);
    at_end = at_end;
    no_read_failed = no_failure ∙ so_far.no_failure;
  }
