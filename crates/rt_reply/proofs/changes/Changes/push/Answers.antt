use Rattle.std.proofs.Common.{◌≡◌}
use Rattle.std.proofs.lemmas.Result.{IfOk-from_err, MatchResult-from_err}
use Rattle.rt_table_row.specs.Rows.{values_of}
use Rattle.rt_table_row.specs.Entries.{view_row}
use Rattle.rt_reply.proofs.Heads.{rows-push, with_rows-push}
use Rattle.rt_reply.proofs.changes.Changes.push.Goals as goal

pub returns-clause-ok : goal.returns-clause-ok
returns-clause-ok g c =
    let named : c.in_ok-try_clone.field-0 ≡ c.args.view.now = c.in_ok-try_clone.ensures in
    rw (c.push_reserved.ensures.items, c.in_ok-reserve.ensures.items, c.in_ok-push.ensures.ok, named, ← c.self.view_is)
    (with_rows-push c.self.inside.heads.items c.self.inside.rows _ (values_of (view_row c.args.row.now)) c.self.invariant)

pub invariant_of-self : goal.invariant_of-self
invariant_of-self g c = rw c.in_err-reserve.ensures.items c.self.invariant

pub invariant_of-self-in_err-push : goal.invariant_of-self-in_err-push
invariant_of-self-in_err-push g c = rw (c.in_ok-reserve.ensures.items, c.in_err-push.ensures.refused) c.self.invariant

pub invariant_of-self-2 : goal.invariant_of-self-2
invariant_of-self-2 g c =
    rw (c.push_reserved.ensures.items, c.in_ok-reserve.ensures.items, c.in_ok-push.ensures.ok) (rows-push c.self.inside.heads.items c.self.inside.rows _ (values_of (view_row c.args.row.now)) c.self.invariant)

pub returns-in_err-reserve-clause-ok : goal.returns-in_err-reserve-clause-ok
returns-in_err-reserve-clause-ok g c = IfOk-from_err _ _ c.from_residual-in_err-reserve.ensures.0

pub returns-in_err-reserve-clause-refused : goal.returns-in_err-reserve-clause-refused
returns-in_err-reserve-clause-refused g c = MatchResult-from_err _ _ _ c.from_residual-in_err-reserve.ensures.0 (λ _. rw c.in_err-reserve.ensures.items c.self.view_is)

pub returns-in_err-push-clause-ok : goal.returns-in_err-push-clause-ok
returns-in_err-push-clause-ok g c = IfOk-from_err _ _ c.from_residual-in_err-push.ensures.0

pub returns-in_err-push-clause-refused : goal.returns-in_err-push-clause-refused
returns-in_err-push-clause-refused g c = MatchResult-from_err _ _ _ c.from_residual-in_err-push.ensures.0 (λ _. rw (c.in_ok-reserve.ensures.items, c.in_err-push.ensures.refused) c.self.view_is)
