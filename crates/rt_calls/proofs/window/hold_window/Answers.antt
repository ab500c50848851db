use Rattle.std.proofs.Common.{not, ap, ◌∙◌}
use Rattle.rt_box.proofs.Narrowing.{Admits-unlimited}
use Rattle.rt_calls.proofs.Reaching.{holds_of_compared, compared_of_holds, holds_of_none, clash}
use Rattle.rt_calls.proofs.window.hold_window.Goals as goal

pub returns-then-is_none : goal.returns-then-is_none
returns-then-is_none g c rect is = (
  (λ a. holds_of_none c.args.min.now c.args.max.now rect (λ same. clash _ (c.new.ensures.valid.1 same) (c.is_none.ensures ∙ ap not c.if-is_none.true))),
  (λ h. Admits-unlimited g.row.D c.all.result rect c.all.ensures is),
)

pub returns : goal.returns
returns g c rect is = let both = c.compared_window.ensures rect is in (
  (λ a. holds_of_compared c.args.min.now c.args.max.now rect (both.0 a)),
  (λ h. both.1 (compared_of_holds c.args.min.now c.args.max.now rect (c.new.ensures.valid.0 (c.is_none.ensures ∙ ap not c.if-is_none.false)) h)),
)
