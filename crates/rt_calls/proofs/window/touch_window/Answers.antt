use Rattle.std.proofs.Common.{not, ap, ◌∙◌}
use Rattle.rt_calls.proofs.Reaching.{touch_of_compared, compared_of_touch, least_of_common, clash}
use Rattle.rt_calls.proofs.window.touch_window.Goals as goal

pub returns-then-is_none : goal.returns-then-is_none
returns-then-is_none g c rect is = (
  (λ a. absurd (c.empty_window.ensures rect is a)),
  (λ h. clash _ (c.new.ensures.valid.1 (least_of_common c.args.min.now c.args.max.now rect h)) (c.is_none.ensures ∙ ap not c.if-is_none.true)),
)

pub returns : goal.returns
returns g c rect is = let both = c.compared_window.ensures rect is in (
  (λ a. touch_of_compared c.args.min.now c.args.max.now rect (c.new.ensures.valid.0 (c.is_none.ensures ∙ ap not c.if-is_none.false)) is.ordered (both.0 a)),
  (λ h. both.1 (compared_of_touch c.args.min.now c.args.max.now rect h)),
)
