use Rattle.rt_check_draw.proofs.Once.{drawn-once}
use Rattle.rt_check_draw.proofs.laws.each_level_is_drawn_once.Goals as goal

pub returns : goal.returns
returns c = drawn-once
