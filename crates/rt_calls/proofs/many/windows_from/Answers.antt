use Rattle.std.proofs.Common.{◌+◌, ◌*◌, ◌≤◌, length, rules, subst, le_antisymm, falls}
use Rattle.std.specs.List.{AllZip}
use Rattle.std.proofs.lemmas.Result.{IfOk-from_err}
use Rattle.rt_calls.specs.Numbers.{pieces}
use Rattle.rt_calls.specs.Windows.{AdmitsPiece}
use Rattle.rt_calls.proofs.Pieces.{zipped_none, zipped_more}
use Rattle.rt_calls.proofs.Writing.{piece_within}
use Rattle.rt_calls.proofs.many.windows_from.Goals as goal

pub loop-place-preserved : goal.loop-place-preserved
loop-place-preserved g c = zipped_more (AdmitsPiece g.row.D c.args.relation) (2 * g.row.D) c.loop-place.place c.args.numbers.now c.loop-place.windows.items _
    c.window_at.result c.window_at.ensures c.in_ok-push.ensures.items c.loop-place.invariant

-- Automation finds these too, but by a search over all that is known in the loop.

pub loop-place-init : goal.loop-place-init
loop-place-init g c = zipped_none (AdmitsPiece g.row.D c.args.relation) _ c.in_ok-windows.ensures.items

pub window_at-requires : goal.window_at-requires
window_at-requires g c =
    let room : (c.loop-place.place + 1) * (2 * g.row.D) ≤ length c.args.numbers.now = piece_within c.loop-place.place c.args.count (2 * g.row.D) _ c.requires.matched c.loop-place-test.true in
    search rules

pub loop-place-smaller : goal.loop-place-smaller
loop-place-smaller g c = falls c.args.count c.loop-place.place c.loop-place-test.true

pub returns-in_err-windows : goal.returns-in_err-windows
returns-in_err-windows g c = IfOk-from_err _ _ c.from_residual.ensures.0

pub returns-in_err-push : goal.returns-in_err-push
returns-in_err-push g c = IfOk-from_err _ _ c.from_residual-in_err-push.ensures.0

pub returns : goal.returns
returns g c =
    subst (λ n. AllZip (AdmitsPiece g.row.D c.args.relation) (pieces (2 * g.row.D) n c.args.numbers.now) c.loop-place.windows.items)
    (le_antisymm c.loop-place.auto.place-end c.loop-place-test.false) c.loop-place.invariant
