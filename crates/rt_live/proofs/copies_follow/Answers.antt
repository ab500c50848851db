use Rattle.rt_live.proofs.Following.{copies_follow}
use Rattle.rt_live.proofs.copies_follow.Goals as goal

pub returns : goal.returns
returns c = copies_follow
