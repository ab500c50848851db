use Rattle.std.proofs.Common.{◌≢◌, ◌+◌, ◌++◌, take, sym, ◌∙◌, subst, arith, rules}
use Rattle.rt_sql_cut.specs.Cutter.{StandsAt}
use Rattle.rt_sql_cut.specs.declared.cutter.Place.TheVariants.{End}
use Rattle.rt_sql_cut.proofs.CutterFront.{stands_after, take_on}
use Rattle.rt_sql_cut.proofs.cutter.Cutter.feed.Goals as goal

pub taken-preserved : goal.taken-preserved
taken-preserved c =
    let i = c.taken.taken in
    let not_end : c.take_byte.new.self.place ≢ End = search rules in
    record {
      within = search rules;
      goes_on = λ e. not_end (sym c.take_run-taken.ensures.place ∙ e);
      stands = λ x stands.
          let before = stands_after c.taken.self x c.args.bytes.now i c.taken.invariant.goes_on (omega arith) (c.taken.invariant.stands x stands) in
          let first = subst (λ f. StandsAt f (x ++ take (i + 1) c.args.bytes.now)) (sym c.take_byte.ensures) before in
          subst (StandsAt c.take_run-taken.new.self) (take_on x c.args.bytes.now (i + 1) c.take_run-taken.result (omega arith)) (c.take_run-taken.ensures.stands (x ++ take (i + 1) c.args.bytes.now) first);
    }

pub returns-then-eq-clause-stands : goal.returns-then-eq-clause-stands
returns-then-eq-clause-stands c = λ x stands.
    let i = c.taken.taken in
    subst (λ f. StandsAt f (x ++ take (i + 1) c.args.bytes.now)) (sym c.take_byte.ensures) (stands_after c.taken.self x c.args.bytes.now i c.taken.invariant.goes_on (omega arith) (c.taken.invariant.stands x stands))
