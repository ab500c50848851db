use Rattle.rt_check_draw.proofs.Scales.{keep-direction}
use Rattle.rt_check_draw.proofs.laws.sides_keep_direction.Goals as goal

pub returns : goal.returns
returns c = keep-direction
