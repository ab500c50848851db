use Rattle.std.proofs.Common.{◌∙◌, ap}
use Rattle.std.proofs.lemmas.Result.{err_from_is_err_and}
use Rattle.rt_bytes.specs.Bytes.{one_more}
use Rattle.rt_bytes.proofs.Writing.{AppendsPrefix-all}
use Rattle.rt_bytes.proofs.Consuming.{held_at_end, Appends-kept}
use Rattle.rt_check_report.proofs.checking.run_check.Goals as goal

pub returns-in_err-flush-clause-checks : goal.returns-in_err-flush-clause-checks
returns-in_err-flush-clause-checks g c =
    let p = err_from_is_err_and c.from_residual-in_err-flush.result c.from_residual-in_err-flush.ensures.1 in
    let read = c.in_ok-bytes.ensures.reads_all in
    let said = c.in_ok-status.ensures in
    rw (p.1, p.2) (record {
      bytes = c.in_ok-bytes.bytes.items;
      held = held_at_end _ _ _ read.consumed read.at_end;
      wrote = AppendsPrefix-all _ _ _ (Appends-kept _ _ _ _ (rw c.deref.ensures.value at said.0.0) c.in_err-flush.ensures.bytes);
      why = c.in_err-flush.ensures.failed ∙ ap one_more said.0.1;
      no_read_failed = read.no_read_failed;
    })

pub returns-clause-checks : goal.returns-clause-checks
returns-clause-checks g c =
    let read = c.in_ok-bytes.ensures.reads_all in
    let said = c.in_ok-status.ensures in
    record {
      bytes = c.in_ok-bytes.bytes.items;
      held = held_at_end _ _ _ read.consumed read.at_end;
      wrote = Appends-kept _ _ _ _ (rw c.deref.ensures.value at said.0.0) c.in_ok-flush.ensures.bytes;
      answered = rw c.deref.ensures.value at said.1;
      no_read_failed = read.no_read_failed;
      no_write_failed = c.in_ok-flush.ensures.failed ∙ said.0.1;
    }
