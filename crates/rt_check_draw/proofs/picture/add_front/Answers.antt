use Rattle.rt_check_draw.specs.Picture.{head, title, ranges_text}
use Rattle.rt_check_draw.proofs.Drawn.{three_joined}
use Rattle.rt_check_draw.proofs.picture.add_front.Goals as goal

pub returns : goal.returns
returns c =
    three_joined _ _ _ _ _ (head c.args.height) (title c.args.rows c.args.capacity c.args.frame.now.axes) (ranges_text c.args.frame.now)
    c.in_ok-add_head.ensures c.in_ok-add_title.ensures c.add_ranges.ensures
