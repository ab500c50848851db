use Rattle.std.proofs.Common.{◌≡◌, ◌+◌, ◌∷◌, [], ◌++◌, length, zip, arith}
use Rattle.std.proofs.lemmas.Iterator.{YieldsList-from_slice, YieldsList-from_zip}
use Rattle.std.proofs.lemmas.Iterator.Consumers.{YieldsList-turn, YieldsList-end}
use Rattle.std.proofs.lemmas.List.{length_push}
use Rattle.rt_table_row.proofs.Windows.{IsNarrowedBy-more, IsWindowAt-all}
use Rattle.rt_table_row.proofs.window.window_of.Goals as goal

pub loop-test-preserved : goal.loop-test-preserved
loop-test-preserved g c =
    let turn = YieldsList-turn (YieldsList-from_zip {s = c.into_iter-test-iterator.result} (YieldsList-from_slice c.args.tests.now cc) (YieldsList-from_slice c.args.places.now cc)) c.loop-test.yielded c.loop-test.test-iterator c.loop-test.yielded_by c.next.result c.next.new.self (c.in-Some.test, c.in-Some.place) c.in-Some.is c.next.ensures.steps in
    let more : length (c.loop-test.yielded ++ (c.in-Some.test, c.in-Some.place) ∷ []) ≡ length c.loop-test.yielded + 1 = length_push c.loop-test.yielded (c.in-Some.test, c.in-Some.place) in
    rw more (IsNarrowedBy-more g.row.D c.loop-test.window _ (zip c.args.tests.now c.args.places.now) (length c.loop-test.yielded) _ c.loop-test.invariant turn.0 turn.1 c.narrow_at.ensures)

pub returns : goal.returns
returns g c =
    let end = YieldsList-end (YieldsList-from_zip {s = c.into_iter-test-iterator.result} (YieldsList-from_slice c.args.tests.now cc) (YieldsList-from_slice c.args.places.now cc)) c.loop-test.yielded c.loop-test.test-iterator c.loop-test.yielded_by c.next.result c.next.new.self c.in-None.is c.next.ensures.steps in
    IsWindowAt-all g.row.D c.loop-test.window (record { cond = c.args.tests.now; places = c.args.places.now }) (length c.loop-test.yielded) c.loop-test.invariant (omega (arith, end.1))
