use Rattle.std.proofs.lemmas.Result.{err_from_is_err_and}
use Rattle.rt_shell.proofs.EngineLemmas.{finishes_ok, finishes_err}
use Rattle.rt_shell.proofs.engine.Engine.finish.Goals as goal

pub returns-in_err-answer_ready : goal.returns-in_err-answer_ready
returns-in_err-answer_ready g c =
    let p = err_from_is_err_and c.from_residual.result c.from_residual.ensures.1 in
    rw p.1 (finishes_err c.args.self.now c.finish.new.self _ _ _ _ _ _ c.finish.ensures.finished c.in_err-answer_ready.ensures)

pub returns-then-self : goal.returns-then-self
returns-then-self g c =
    let ok = finishes_ok c.args.self.now c.finish.new.self c.answer_ready.new.self _ _ _ _ _ c.finish.ensures.finished c.in_ok-answer_ready.ensures in
    rw c.if-self.true at ok

pub returns-else-self : goal.returns-else-self
returns-else-self g c =
    let ok = finishes_ok c.args.self.now c.finish.new.self c.answer_ready.new.self _ _ _ _ _ c.finish.ensures.finished c.in_ok-answer_ready.ensures in
    rw c.if-self.false at ok
