use Rattle.std.proofs.Common.{◌≡◌, ◌+◌, ◌∷◌, [], ◌++◌, false, length, zip, w64, FitsSigned, arith, rules}
use Rattle.std.proofs.lemmas.Int.{to_z-of_z}
use Rattle.std.proofs.lemmas.Iterator.{YieldsList-from_slice, YieldsList-from_zip}
use Rattle.std.proofs.lemmas.Iterator.Consumers.{YieldsList-turn, YieldsList-end}
use Rattle.std.proofs.lemmas.List.{length_push}
use Rattle.rt_table_row.specs.Filters.{passes_at, fixes_id}
use Rattle.rt_table_row.proofs.Filters.{passes_each, unfixed_more, unfixed_all}
use Rattle.rt_table_row.proofs.filter.id_among.Goals as goal

pub returns-in-Some-id_at-clause-fixed : goal.returns-in-Some-id_at-clause-fixed
returns-in-Some-id_at-clause-fixed c =
    let turn = YieldsList-turn (YieldsList-from_zip {s = c.into_iter-test-iterator.result} (YieldsList-from_slice c.args.tests.now cc) (YieldsList-from_slice c.args.places.now cc)) c.loop-test.yielded c.loop-test.test-iterator c.loop-test.yielded_by c.next.result c.next.new.self (c.in-Some.test, c.in-Some.place) c.in-Some.is c.next.ensures.steps in
    let fits : FitsSigned w64 c.in-Some-id_at.id = search rules in
    λ row passes. rw (to_z-of_z w64 c.in-Some-id_at.id fits)
    (c.in-Some-id_at.ensures.fixed row (passes_each (passes_at row) (zip c.args.tests.now c.args.places.now) (length c.loop-test.yielded) _ turn.0 turn.1 passes))

pub loop-test-preserved : goal.loop-test-preserved
loop-test-preserved c =
    let turn = YieldsList-turn (YieldsList-from_zip {s = c.into_iter-test-iterator.result} (YieldsList-from_slice c.args.tests.now cc) (YieldsList-from_slice c.args.places.now cc)) c.loop-test.yielded c.loop-test.test-iterator c.loop-test.yielded_by c.next.result c.next.new.self (c.in-Some.test, c.in-Some.place) c.in-Some.is c.next.ensures.steps in
    let more : length (c.loop-test.yielded ++ (c.in-Some.test, c.in-Some.place) ∷ []) ≡ length c.loop-test.yielded + 1 = length_push c.loop-test.yielded (c.in-Some.test, c.in-Some.place) in
    let none : fixes_id (c.in-Some.test.now, c.in-Some.place.now) ≡ false = search rules in
    rw more (unfixed_more fixes_id (zip c.args.tests.now c.args.places.now) (length c.loop-test.yielded) _ turn.0 turn.1 c.loop-test.invariant none)

pub returns-clause-none : goal.returns-clause-none
returns-clause-none c =
    let end = YieldsList-end (YieldsList-from_zip {s = c.into_iter-test-iterator.result} (YieldsList-from_slice c.args.tests.now cc) (YieldsList-from_slice c.args.places.now cc)) c.loop-test.yielded c.loop-test.test-iterator c.loop-test.yielded_by c.next.result c.next.new.self c.in-None.is c.next.ensures.steps in
    unfixed_all fixes_id (zip c.args.tests.now c.args.places.now) (length c.loop-test.yielded) (omega (arith, end.1)) c.loop-test.invariant
