use Rattle.std.proofs.Common.{refl}
use Rattle.std.proofs.lemmas.Result.{err_from_is_err_and}
use Rattle.rt_shell.proofs.Pumping.{flushed, flush_fails}
use Rattle.rt_shell.proofs.runner.run.Goals as goal

pub returns-in_err-flush-clause-runs : goal.returns-in_err-flush-clause-runs
returns-in_err-flush-clause-runs g c =
    let p = err_from_is_err_and c.from_residual-in_err-flush.result c.from_residual-in_err-flush.ensures.1 in
    let ran = c.in_ok-status.ensures.pumps c.args.options.now c.in_ok-shell.ensures in
    rw (p.1, p.2) (flush_fails c.args.options.now _ _ _ c.in_ok-status.status ran refl refl c.in_err-flush.ensures.bytes c.in_err-flush.ensures.failed)

pub returns-clause-runs : goal.returns-clause-runs
returns-clause-runs g c =
    let ran = c.in_ok-status.ensures.pumps c.args.options.now c.in_ok-shell.ensures in
    flushed c.args.options.now _ _ _ c.in_ok-status.status ran refl refl c.in_ok-flush.ensures.bytes c.in_ok-flush.ensures.failed
