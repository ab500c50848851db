use Rattle.std.proofs.Common.{arith}
use Rattle.std.proofs.lemmas.Int.{ints}
use Rattle.rt_box.proofs.rect.are_inside.Goals as goal

pub returns : goal.returns
returns c = grind (arith, ints)
