use Rattle.rt_check_draw.proofs.Scales.{scale-bound}
use Rattle.rt_check_draw.proofs.laws.scale_stays_in_plot.Goals as goal

pub returns : goal.returns
returns c = scale-bound
