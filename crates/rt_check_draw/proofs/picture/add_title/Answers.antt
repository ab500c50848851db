use Rattle.std.specs.Prelude.{codes}
use Rattle.rt_check_draw.specs.Picture.{size, axis_number, upwards}
use Rattle.rt_check_draw.proofs.Drawn.{three_joined}
use Rattle.rt_check_draw.proofs.picture.add_title.Goals as goal

pub returns : goal.returns
returns c =
    three_joined _ _ _ _ _ (size c.args.rows c.args.capacity (axis_number c.args.axes.across)) (upwards c.args.axes.up) (codes "</text>\n")
    (rw c.saturating_add.ensures at c.in_ok-add_size.ensures) c.in_ok-add_upwards.ensures c.add.ensures
