use Rattle.rt_check_draw.proofs.Drawn.{two_added}
use Rattle.rt_check_draw.proofs.picture.add_end.Goals as goal

pub returns : goal.returns
returns g c =
    two_added _ _ _ _ _ _ c.in_ok-add_problems.ensures c.add.ensures
