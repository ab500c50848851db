use Rattle.rt_box.proofs.Holding.{area-le}
use Rattle.rt_box.proofs.laws.area_grows.Goals as goal

pub returns : goal.returns
returns c outer inner h = area-le outer inner h
