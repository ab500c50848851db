use Rattle.std.proofs.Common.{◌≡◌, Ok}
use Rattle.rt_shell.specs.declared.engine.Flow.TheVariants.{Goes, Stops}
use Rattle.rt_shell.proofs.Shells.{finishes_at, stopped_ends}
use Rattle.rt_shell.proofs.shell.Shell.finish.Goals as goal

pub returns-in-Goes-clause-ends : goal.returns-in-Goes-clause-ends
returns-in-Goes-clause-ends g c options fed out printed =
    let was = c.in_ok-self.was in
    let is = c.in-Goes.is in
    let goes : c.args.self.flow ≡ Ok Goes = cc in
    finishes_at options c.args.self.engine fed out _ _ _ _ c.args.self.flow c.finish.result goes printed c.finish.ensures

pub returns-clause-ends : goal.returns-clause-ends
returns-clause-ends g c options fed out printed =
    let was = c.in_ok-self.was in
    let is = c.in-Stops.is in
    let stopped : c.args.self.flow ≡ Ok Stops = cc in
    stopped_ends options c.args.self.engine fed out c.args.self.flow _ _ stopped printed
