use Rattle.rt_check_draw.proofs.Ranges.{in-frame}
use Rattle.rt_check_draw.proofs.laws.boxes_stay_in_frame.Goals as goal

pub returns : goal.returns
returns c = in-frame
