use Rattle.std.proofs.lemmas.Result.{err_from_is_err_and}
use Rattle.rt_shell.proofs.StepLemmas.{gives_parsed, gives_refused}
use Rattle.rt_shell.proofs.engine.answer_to.Goals as goal

pub returns : goal.returns
returns c = gives_parsed c.args.session.now c.args.piece.now c.in_ok-statement.statement c.step.result c.step.new.self c.in_ok-statement.ensures c.step.ensures

pub returns-in_err-statement : goal.returns-in_err-statement
returns-in_err-statement c =
    let p = err_from_is_err_and c.from_residual.result c.from_residual.ensures.1 in
    rw (p.1, p.2) (gives_refused c.args.session.now c.args.piece.now c.in_err-statement.field-0.0 c.in_err-statement.ensures)
