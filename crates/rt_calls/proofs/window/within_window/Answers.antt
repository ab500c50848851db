use Rattle.rt_calls.proofs.Reaching.{within_of_compared, compared_of_within}
use Rattle.rt_calls.proofs.window.within_window.Goals as goal

pub returns : goal.returns
returns g c rect is = let both = c.compared_window.ensures rect is in (
  (λ a. within_of_compared c.args.min.now c.args.max.now rect (both.0 a)),
  (λ h. both.1 (compared_of_within c.args.min.now c.args.max.now rect is.ordered h)),
)
