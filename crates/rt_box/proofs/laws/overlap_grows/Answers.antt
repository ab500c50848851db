use Rattle.rt_box.proofs.Holding.{overlap-le_left, overlap-le_right}
use Rattle.rt_box.proofs.laws.overlap_grows.Goals as goal

pub returns : goal.returns
returns c outer inner other h = (overlap-le_left outer inner other h, overlap-le_right other outer inner h)
