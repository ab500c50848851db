use Rattle.std.proofs.Common.{arith, rules, pos, ◌∙◌, ◌+◌, ◌*◌, get_or, FitsSigned, w32}
use Rattle.std.proofs.lemmas.Int.{ints}
use Rattle.rt_calls.proofs.Reaching.{admits_at_first, admits_more, admits_at_last, narrowed_by}
use Rattle.rt_calls.proofs.window.compared_window.Goals as goal

pub loop-axis-init : goal.loop-axis-init
loop-axis-init g c = record {
  long = c.all-window.ensures.long;
  admits = λ rect is. admits_at_first c.args.first c.args.second g.row.D c.args.least.now c.args.greatest.now c.all-window.result rect c.all-window.ensures is;
}

pub loop-axis-preserved : goal.loop-axis-preserved
loop-axis-preserved g c =
    let least_fits : FitsSigned w32 (get_or c.args.least.now c.loop-axis.axis (pos 0)) = search rules in
    let greatest_fits : FitsSigned w32 (get_or c.args.greatest.now c.loop-axis.axis (pos 0)) = search rules in
    let first = narrowed_by c.loop-axis.window c.narrow.new.self (2 * c.loop-axis.axis) c.args.first _ (get_or c.args.least.now c.loop-axis.axis (pos 0)) (omega (arith, ints, c.from.ensures)) c.narrow.ensures in
    let second = narrowed_by c.narrow.new.self c.narrow-in-loop-axis.new.self (2 * c.loop-axis.axis + 1) c.args.second _ (get_or c.args.greatest.now c.loop-axis.axis (pos 0)) (omega (arith, ints, c.from-in-loop-axis.ensures)) c.narrow-in-loop-axis.ensures in record {
      long = c.narrow-in-loop-axis.ensures.long ∙ c.narrow.ensures.long ∙ c.loop-axis.invariant.long;
      admits = λ rect is. admits_more c.args.first c.args.second g.row.D c.loop-axis.axis c.args.least.now c.args.greatest.now c.loop-axis.window c.narrow.new.self c.narrow-in-loop-axis.new.self rect is
          c.loop-axis-test.true c.loop-axis.invariant.long (c.loop-axis.invariant.admits rect is) first second;
    }

pub returns : goal.returns
returns g c rect is = admits_at_last c.args.first c.args.second g.row.D c.loop-axis.axis c.args.least.now c.args.greatest.now c.loop-axis.window rect (omega arith) c.told-least c.told-greatest is (c.loop-axis.invariant.admits rect is)
