use Rattle.rt_check_draw.proofs.Scales.{scale-monotone}
use Rattle.rt_check_draw.proofs.laws.scale_is_monotone.Goals as goal

pub returns : goal.returns
returns c = scale-monotone
