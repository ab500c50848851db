use Rattle.rt_check_draw.proofs.Drawn.{two_added}
use Rattle.rt_check_draw.proofs.picture.add_ranges.Goals as goal

pub returns : goal.returns
returns c = two_added _ _ _ _ _ _ c.in_ok-add_range.ensures c.add_range-2.ensures
