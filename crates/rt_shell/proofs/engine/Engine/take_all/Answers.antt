use Rattle.std.proofs.Common.{◌<◌, length, take, arith, rules}
use Rattle.std.specs.Prelude.{IsNone}
use Rattle.std.proofs.lemmas.List.{length-take-le}
use Rattle.std.proofs.lemmas.Bool.Decides.{nat_tests}
use Rattle.std.proofs.lemmas.Result.{err_from_is_err_and}
use Rattle.rt_sql_cut.specs.Cutter.{ready_piece}
use Rattle.rt_shell.proofs.EngineLemmas.{idle_after}
use Rattle.rt_shell.proofs.Taking.{parts, taking_starts, taking_on, taking_stops, taking_fails}
use Rattle.rt_shell.proofs.engine.Engine.take_all.Goals as goal

pub loop-rest-init : goal.loop-rest-init
loop-rest-init g c = taking_starts _ _ _ _ c.requires.idle

pub returns-in_err-answer_ready-clause-takes : goal.returns-in_err-answer_ready-clause-takes
returns-in_err-answer_ready-clause-takes g c =
    let p = err_from_is_err_and c.from_residual.result c.from_residual.ensures.1 in
    rw p.1 (taking_fails _ _ c.loop-rest.self _ _ _ c.feed-taken.new.self _ _ _ _ _ _ _ c.loop-rest.invariant
    (parts c.feed-taken.result _) c.feed-taken.ensures.stands _ c.in_err-answer_ready.ensures)

pub returns-in-Stops-clause-takes : goal.returns-in-Stops-clause-takes
returns-in-Stops-clause-takes g c =
    taking_stops _ _ c.loop-rest.self _ _ _ c.feed-taken.new.self _ _ _ _ _ _ _ c.loop-rest.invariant
    (parts c.feed-taken.result _) c.feed-taken.ensures.stands (rw c.in-Stops.is at c.in_ok-answer_ready.ensures)

pub loop-rest-preserved : goal.loop-rest-preserved
loop-rest-preserved g c =
    let idle : IsNone (ready_piece c.loop-rest.self.cutter) = rw c.loop-rest.invariant.idle (search rules) in
    let some : 0 < length c.loop-rest.rest.now = grind (arith, nat_tests) in
    let taken : 0 < length (take c.feed-taken.result c.loop-rest.rest.now) = rw (length-take-le c.feed-taken.result c.loop-rest.rest.now c.feed-taken.ensures.taken) (c.feed-taken.ensures.progress idle some) in
    taking_on _ _ c.loop-rest.self _ _ _ c.feed-taken.new.self _ _ _ _ _ _ _ c.loop-rest.invariant
    (parts c.feed-taken.result _) c.feed-taken.ensures.stands taken (rw c.in-Goes.is at c.in_ok-answer_ready.ensures)

pub returns-in_err-answer_ready-clause-idle : goal.returns-in_err-answer_ready-clause-idle
returns-in_err-answer_ready-clause-idle g c =
    idle_after (record c.loop-rest.self { cutter = c.feed-taken.new.self }) c.answer_ready.ensures.answer c.answer_ready.new.self c.answer_ready.ensures.answers

pub returns-in-Stops-clause-idle : goal.returns-in-Stops-clause-idle
returns-in-Stops-clause-idle g c =
    idle_after (record c.loop-rest.self { cutter = c.feed-taken.new.self }) c.answer_ready.ensures.answer c.answer_ready.new.self c.answer_ready.ensures.answers
