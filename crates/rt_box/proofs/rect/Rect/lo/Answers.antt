use Rattle.std.proofs.Common.{arith}
use Rattle.std.proofs.lemmas.Grind.{common_steps}
use Rattle.rt_box.proofs.rect.Rect.lo.Goals as goal

pub loop-axis-preserved : goal.loop-axis-preserved
loop-axis-preserved g c = grind (arith, common_steps)
