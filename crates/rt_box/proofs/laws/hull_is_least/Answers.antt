use Rattle.std.proofs.Common.{[], ◌∷◌, arith}
use Rattle.rt_box.proofs.Hulls.{hull-least}
use Rattle.rt_box.proofs.laws.hull_is_least.Goals as goal

pub returns : goal.returns
returns c axes [] some are_boxes = absurd (omega arith)
returns c axes (b ∷ bs) some are_boxes = hull-least axes b bs are_boxes
