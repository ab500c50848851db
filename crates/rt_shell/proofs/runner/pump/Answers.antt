use Rattle.std.proofs.Common.{◌≡◌, length, take, [], arith, refl, rules}
use Rattle.std.proofs.lemmas.List.{length-take-le}
use Rattle.std.proofs.lemmas.Result.{err_from_is_err_and}
use Rattle.rt_shell.proofs.Pumping.{pumping_starts, read_fails, reads_out, feed_fails, stops, goes_on, ends, end_fails}
use Rattle.rt_shell.proofs.runner.pump.Goals as goal

pub loop-turn-init : goal.loop-turn-init
loop-turn-init g c = record {
  reads = omega arith;
  pumps = λ options printed. pumping_starts options c.args.shell _ printed;
}

pub returns-in_err-count-clause-pumps : goal.returns-in_err-count-clause-pumps
returns-in_err-count-clause-pumps g c options printed =
    let p = err_from_is_err_and c.from_residual.result c.from_residual.ensures.1 in
    rw (p.1, p.2) (read_fails options c.loop-turn.shell _ _ _ (c.loop-turn.invariant.pumps options printed) _ c.in_err-count.ensures.bytes c.in_err-count.ensures.failed refl refl)

pub returns-in_err-finish-clause-pumps : goal.returns-in_err-finish-clause-pumps
returns-in_err-finish-clause-pumps g c options printed =
    let so_far = c.loop-turn.invariant.pumps options printed in
    let p = err_from_is_err_and c.from_residual-in_err-finish.result c.from_residual-in_err-finish.ensures.1 in
    let none : take c.in_ok-count.count c.read.new.buffer ≡ [] = rw c.if-count-eq0.true refl in
    rw (p.1, p.2) (end_fails options c.loop-turn.shell _ _ _ so_far _ (take c.in_ok-count.count c.read.new.buffer)
    c.in_ok-count.ensures.bytes.0 c.in_ok-count.ensures.failed none (c.in_ok-count.ensures.bytes.1 c.if-count-eq0.true (search rules))
    c.in_err-finish.field-0.0 (c.in_err-finish.ensures.ends options so_far.read so_far.lines so_far.printed))

pub returns-then-count-eq0-clause-pumps : goal.returns-then-count-eq0-clause-pumps
returns-then-count-eq0-clause-pumps g c options printed =
    let so_far = c.loop-turn.invariant.pumps options printed in
    let none : take c.in_ok-count.count c.read.new.buffer ≡ [] = rw c.if-count-eq0.true refl in
    ends options c.loop-turn.shell _ _ _ so_far _ (take c.in_ok-count.count c.read.new.buffer)
    c.in_ok-count.ensures.bytes.0 c.in_ok-count.ensures.failed none (c.in_ok-count.ensures.bytes.1 c.if-count-eq0.true (search rules))
    _ (c.in_ok-finish.ensures.ends options so_far.read so_far.lines so_far.printed)

pub returns-in_err-feed-clause-pumps : goal.returns-in_err-feed-clause-pumps
returns-in_err-feed-clause-pumps g c options printed =
    let so_far = c.loop-turn.invariant.pumps options printed in
    let p = err_from_is_err_and c.from_residual-in_err-feed.result c.from_residual-in_err-feed.ensures.1 in
    let counted : length (take c.in_ok-count.count c.read.new.buffer) ≡ c.in_ok-count.count = length-take-le c.in_ok-count.count c.read.new.buffer c.in_ok-count.ensures.count.0 in
    rw (p.1, p.2) (feed_fails options c.loop-turn.shell _ _ _ so_far _ (take c.in_ok-count.count c.read.new.buffer) c.feed.new.self
    c.in_ok-count.ensures.bytes.0 c.in_ok-count.ensures.failed c.in_err-feed.field-0.0 c.loop-turn-test.true (rw counted (search rules))
    (c.in_err-feed.ensures.feeds options so_far.read so_far.lines so_far.printed))

pub returns-in-Stops-clause-pumps : goal.returns-in-Stops-clause-pumps
returns-in-Stops-clause-pumps g c options printed =
    let so_far = c.loop-turn.invariant.pumps options printed in
    stops options c.loop-turn.shell _ _ _ so_far _ (take c.in_ok-count.count c.read.new.buffer) c.feed.new.self
    c.in_ok-count.ensures.bytes.0 c.in_ok-count.ensures.failed (rw c.in-Stops.is at (c.in_ok-feed.ensures.feeds options so_far.read so_far.lines so_far.printed))

pub loop-turn-preserved : goal.loop-turn-preserved
loop-turn-preserved g c =
    let counted : length (take c.in_ok-count.count c.read.new.buffer) ≡ c.in_ok-count.count = length-take-le c.in_ok-count.count c.read.new.buffer c.in_ok-count.ensures.count.0 in
    record {
      reads = omega (arith, c.loop-turn.invariant.reads, c.in_ok-count.ensures.turns);
      pumps = λ options printed.
          let so_far = c.loop-turn.invariant.pumps options printed in
          goes_on options c.loop-turn.shell _ _ _ so_far _ (take c.in_ok-count.count c.read.new.buffer) c.feed.new.self
          c.in_ok-count.ensures.bytes.0 c.in_ok-count.ensures.failed (rw c.in-Goes.is at (c.in_ok-feed.ensures.feeds options so_far.read so_far.lines so_far.printed))
          (rw counted (omega arith)) (rw counted (search rules)) c.in_ok-count.ensures.turns c.loop-turn-test.true;
    }

pub returns-clause-pumps : goal.returns-clause-pumps
returns-clause-pumps g c options printed = reads_out options c.loop-turn.shell _ _ _ (c.loop-turn.invariant.pumps options printed) (omega arith)
