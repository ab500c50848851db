-- What a loop keeps that reads a script to its end.
use Rattle.std.proofs.Common.{◌≡◌, ◌∙◌, ℕ, ◌+◌, ◌*◌, ◌^◌, ◌<◌, ◌≤◌, List, [], ◌++◌, length, Result, Ok, Err, refl, ap, subst, inl, inr, arith, append-nil, length-append}
use Rattle.std.specs.Io.KnownBytes.{Consumes, Keeps, IsAtEnd}
use Rattle.rt_bytes.specs.Bytes.{one_more, WritesAll}
use Rattle.rt_bytes.specs.declared.device.WriteFault.{WriteFault}
use Rattle.rt_bytes.proofs.Writing.{WritesAll-trans, WritesAll-nil, WritesPrefix-after, AppendsPrefix-all}
use Rattle.rt_bytes.specs.declared.outcome.Status.{Status}
use Rattle.rt_bytes.specs.declared.outcome.Status.TheVariants.{Refused}
use Rattle.rt_bytes.specs.Devices.{Devices, most_reads}
use Rattle.rt_bytes.proofs.Consuming.{Consumes-trans, Consumes-kept, Consumes-none, always, too_long, held_at_end, held_before, Appends-kept}
use Rattle.rt_shell.specs.declared.engine.Flow.{Flow}
use Rattle.rt_shell.specs.declared.engine.Flow.TheVariants.{Goes, Stops}
use Rattle.rt_shell.specs.declared.engine.Options.{Options}
use Rattle.rt_shell.specs.declared.shell.FeedFault.{FeedFault}
use Rattle.rt_shell.specs.declared.shell.FeedFault.TheVariants.{Write, TooLong}
use Rattle.rt_shell.specs.declared.shell.Shell.{Shell}
use Rattle.rt_shell.specs.Shell.{HasPrinted, HasPrintedAt, FeedsOn, EndsWith, run_fault_of}
use Rattle.rt_shell.specs.Run.{FailsToRead, FailsToWrite, ReadsToEnd, RunsScript, Pumps}
use Rattle.rt_shell.proofs.Shells.{cut_short_here}
use Rattle.rt_shell.proofs.Printed.{printed_by}

-- so much is read, and fed to the shell
pub record Pumping (options : Options) (shell : Shell) (old now : Devices) (turn : ℕ) : Type 0 where
  pub read : List ℕ
  pub lines : List ℕ
  pub consumed : Consumes old.left now.left read
  pub wrote : WritesAll old.written now.written old.faults now.faults lines
  pub printed : HasPrinted options shell read lines
  pub long : length read ≤ 4096 * turn
  pub many : turn ≤ length read
  pub no_failure : now.failures ≡ old.failures
  pub exact : old.reads < 2 ^ 63 → now.reads ≡ old.reads + turn

module _ (options : Options) (shell : Shell) (old now : Devices) (turn : ℕ) (so_far : Pumping options shell old now turn) where
  pub read_fails : (new : Devices) → Keeps now.left new.left → new.failures ≡ one_more now.failures → new.written ≡ now.written → new.faults ≡ now.faults → FailsToRead options old new
  read_fails new kept failed written faults = record {
    read = so_far.read;
    out = so_far.lines;
    consumed = Consumes-kept old.left now.left new.left so_far.read so_far.consumed kept;
    transcript = printed_by options shell so_far.read so_far.lines so_far.printed;
    wrote = rw written so_far.wrote.0;
    why = inl (failed ∙ ap one_more so_far.no_failure);
    short = always _ old.left (failed ∙ ap one_more so_far.no_failure);
    no_write_failed = faults ∙ so_far.wrote.1;
  }

  pub reads_out : turn ≡ most_reads → FailsToRead options old now
  reads_out last = record {
    read = so_far.read;
    out = so_far.lines;
    consumed = so_far.consumed;
    transcript = printed_by options shell so_far.read so_far.lines so_far.printed;
    wrote = so_far.wrote.0;
    why = inr (so_far.no_failure, λ small. so_far.exact small ∙ ap (λ n. old.reads + n) last);
    short = too_long _ old.left now.left so_far.read so_far.consumed (rw last at so_far.many);
    no_write_failed = so_far.wrote.1;
  }

  module _ (new : Devices) (bytes : List ℕ) (fed : Shell) (came : Consumes now.left new.left bytes) (no_failure : new.failures ≡ now.failures) where
    consumed : Consumes old.left new.left (so_far.read ++ bytes)
    consumed = Consumes-trans old.left now.left new.left so_far.read bytes so_far.consumed came

    abbrev Fed : Result Flow FeedFault → Type 0
    Fed result = FeedsOn options so_far.read so_far.lines shell bytes fed now.written new.written now.faults new.faults result

    pub write_fails : Fed (Err Write) → FailsToWrite options old new
    write_fails feeds =
        let front = WritesPrefix-after old.written now.written new.written old.faults now.faults new.faults so_far.lines feeds.1.0 so_far.wrote feeds.1.1 in
        record {
          read = so_far.read ++ bytes;
          out = so_far.lines ++ feeds.1.0;
          consumed = consumed;
          transcript = inl feeds.1.2;
          wrote = front.0;
          why = front.1;
          no_read_failed = no_failure ∙ so_far.no_failure;
        }

    -- a run reads less than a shell takes
    not_too_long : turn < most_reads → length bytes ≤ 4096 → Fed (Err TooLong) → ⊥
    not_too_long within few_bytes feeds =
        let bound : length so_far.read + length bytes ≤ 2 ^ 63 = omega (arith, so_far.long) in
        omega (arith, feeds.0)

    pub feed_fails : (fault : FeedFault) → turn < most_reads → length bytes ≤ 4096 → Fed (Err fault) → Pumps options old new (Err (run_fault_of fault))
    feed_fails Write within few_bytes feeds = write_fails feeds
    feed_fails TooLong within few_bytes feeds = absurd (not_too_long within few_bytes feeds)

    pub stops : Fed (Ok Stops) → ReadsToEnd options old new Refused
    stops feeds =
        let printed : HasPrintedAt (Ok Stops) options fed.engine (so_far.read ++ bytes) (so_far.lines ++ feeds.1.0) =
        subst (λ (r : Result Flow WriteFault). HasPrintedAt r options fed.engine (so_far.read ++ bytes) (so_far.lines ++ feeds.1.0)) feeds.0 feeds.1.2 in
        let all = WritesAll-trans old.written now.written new.written old.faults now.faults new.faults so_far.lines feeds.1.0 so_far.wrote feeds.1.1 in
        record {
          read = so_far.read ++ bytes;
          out = so_far.lines ++ feeds.1.0;
          consumed = consumed;
          wrote = all.0;
          transcript = inr ((cut_short_here options _ _ printed).1, λ rest. (printed rest).0);
          no_read_failed = no_failure ∙ so_far.no_failure;
          no_write_failed = all.1;
        }

    pub goes_on : Fed (Ok Goes) → 0 < length bytes → length bytes ≤ 4096 → new.reads ≡ one_more now.reads → turn < most_reads → Pumping options fed old new (turn + 1)
    goes_on feeds some few_bytes reads within = record {
      read = so_far.read ++ bytes;
      lines = so_far.lines ++ feeds.1.0;
      consumed = consumed;
      wrote = WritesAll-trans old.written now.written new.written old.faults now.faults new.faults so_far.lines feeds.1.0 so_far.wrote feeds.1.1;
      printed = feeds.1.2;
      long = omega (arith, so_far.long, length-append so_far.read bytes);
      many = omega (arith, so_far.many, length-append so_far.read bytes);
      no_failure = no_failure ∙ so_far.no_failure;
      exact = λ small. omega (arith, so_far.exact small, reads, within, small);
    }

  module _ (new : Devices) (bytes : List ℕ) (came : Consumes now.left new.left bytes) (no_failure : new.failures ≡ now.failures) (none : bytes ≡ []) (at_end : IsAtEnd new.left) where
    consumed_all : Consumes old.left new.left so_far.read
    consumed_all =
        let all : Consumes old.left new.left (so_far.read ++ []) = rw none at (Consumes-trans old.left now.left new.left so_far.read bytes so_far.consumed came) in
        rw (append-nil so_far.read) at all

    pub ends : (status : Status) → EndsWith options so_far.read so_far.lines now.written new.written now.faults new.faults (Ok status) → ReadsToEnd options old new status
    ends status finishes =
        let all = WritesAll-trans old.written now.written new.written old.faults now.faults new.faults so_far.lines finishes.0 so_far.wrote finishes.1 in
        record {
          read = so_far.read;
          out = so_far.lines ++ finishes.0;
          consumed = consumed_all;
          wrote = all.0;
          transcript = inl (at_end, finishes.2);
          no_read_failed = no_failure ∙ so_far.no_failure;
          no_write_failed = all.1;
        }

    pub end_fails : (fault : WriteFault) → EndsWith options so_far.read so_far.lines now.written new.written now.faults new.faults (Err fault) → FailsToWrite options old new
    end_fails fault finishes =
        let front = WritesPrefix-after old.written now.written new.written old.faults now.faults new.faults so_far.lines finishes.0 so_far.wrote finishes.1 in
        record {
          read = so_far.read;
          out = so_far.lines ++ finishes.0;
          consumed = consumed_all;
          transcript = inr (at_end, finishes.2);
          wrote = front.0;
          why = front.1;
          no_read_failed = no_failure ∙ so_far.no_failure;
        }

pub pumping_starts : (options : Options) (shell : Shell) (now : Devices) → HasPrinted options shell [] [] → Pumping options shell now now 0
pumping_starts options shell now printed = record {
  read = [];
  lines = [];
  consumed = Consumes-none now.left;
  wrote = WritesAll-nil now.written now.faults;
  printed = printed;
  long = omega arith;
  many = omega arith;
  no_failure = refl;
  exact = λ small. omega arith;
}

-- ---- after the flush

pub flushed : (options : Options) (old now new : Devices) (status : Status) → ReadsToEnd options old now status
    → new.left ≡ now.left → new.failures ≡ now.failures → Keeps now.written new.written → new.faults ≡ now.faults → RunsScript options old new status
flushed options old now new status ran left failures kept faults =
    let wrote = Appends-kept old.written now.written new.written ran.out ran.wrote kept in
    elim ran.transcript [
      | inl whole ↦ record {
        script = ran.read;
        out = ran.out;
        held = held_at_end old.left now.left ran.read ran.consumed whole.0;
        transcript = whole.1;
        wrote = wrote;
        no_read_failed = failures ∙ ran.no_read_failed;
        no_write_failed = faults ∙ ran.no_write_failed;
      }
      | inr stopped ↦
          let rest = held_before old.left now.left ran.read ran.consumed in
          record {
            script = ran.read ++ rest.0;
            out = ran.out;
            held = rest.1;
            transcript = stopped.1 rest.0;
            wrote = wrote;
            no_read_failed = failures ∙ ran.no_read_failed;
            no_write_failed = faults ∙ ran.no_write_failed;
          }
    ]

pub flush_fails : (options : Options) (old now new : Devices) (status : Status) → ReadsToEnd options old now status
    → new.left ≡ now.left → new.failures ≡ now.failures → Keeps now.written new.written → new.faults ≡ one_more now.faults → FailsToWrite options old new
flush_fails options old now new status ran left failures kept faults = record {
  read = ran.read;
  out = ran.out;
  consumed = rw left ran.consumed;
  transcript = elim ran.transcript [
    | inl whole ↦ inr (rw left whole.0, (status, whole.1))
    | inr stopped ↦ inl stopped.0
  ];
  wrote = AppendsPrefix-all old.written new.written ran.out (Appends-kept old.written now.written new.written ran.out ran.wrote kept);
  why = faults ∙ ap one_more ran.no_write_failed;
  no_read_failed = failures ∙ ran.no_read_failed;
}
