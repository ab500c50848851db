use Rattle.std.proofs.Common.{◌≡◌, Ok}
use Rattle.std.proofs.lemmas.Result.{err_from_is_err_and}
use Rattle.rt_shell.specs.declared.engine.Flow.TheVariants.{Goes, Stops}
use Rattle.rt_shell.proofs.Shells.{feeds, feed_fails, stopped_feeds}
use Rattle.rt_shell.proofs.shell.Shell.feed.Goals as goal

pub returns-in-Stops-clause-feeds : goal.returns-in-Stops-clause-feeds
returns-in-Stops-clause-feeds g c options fed out printed =
    let was = c.in_ok-self.was in
    let is = c.in-Stops.is in
    let stopped : c.args.self.now.flow ≡ Ok Stops = cc in
    (stopped, stopped_feeds options c.args.self.now.engine fed out c.args.bytes.now c.args.self.now.flow _ _ stopped printed)

pub returns-in_err-self-2-clause-feeds : goal.returns-in_err-self-2-clause-feeds
returns-in_err-self-2-clause-feeds g c options fed out printed =
    let was = c.in_ok-self.was in
    let is = c.in-Goes.is in
    let goes : c.args.self.now.flow ≡ Ok Goes = cc in
    let p = err_from_is_err_and c.from_residual-in_err-self-2.result c.from_residual-in_err-self-2.ensures.1 in
    rw (p.1, p.2) (
      (c.in_err-self-2.field-0.0, c.in_err-self-2.was),
      feed_fails options c.args.self.now.engine fed out c.args.bytes.now c.take_all-self.new.self _ _ _ _ c.args.self.now.flow c.take_all-self.result goes printed
          c.in_err-self-2.field-0.0 c.in_err-self-2.was c.take_all-self.ensures.takes,
    )

pub returns-clause-feeds : goal.returns-clause-feeds
returns-clause-feeds g c options fed out printed =
    let was = c.in_ok-self.was in
    let is = c.in-Goes.is in
    let goes : c.args.self.now.flow ≡ Ok Goes = cc in (
      c.in_ok-self-2.was,
      feeds options c.args.self.now.engine fed out c.args.bytes.now c.take_all-self.new.self _ _ _ _ c.args.self.now.flow c.take_all-self.result goes printed
          c.in_ok-self-2.field-0 c.in_ok-self-2.was c.take_all-self.ensures.takes c.take_all-self.ensures.few,
    )
