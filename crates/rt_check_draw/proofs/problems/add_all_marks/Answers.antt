use Rattle.rt_check_draw.proofs.Drawn.{three_added}
use Rattle.rt_check_draw.proofs.problems.add_all_marks.Goals as goal

pub returns : goal.returns
returns g c =
    three_added _ _ _ _ _ _ _ _ c.in_ok-add.ensures c.in_ok-add_each_mark.ensures c.add-2.ensures
