use Rattle.rt_check_draw.proofs.Documents.{well-formed}
use Rattle.rt_check_draw.proofs.laws.picture_is_well_formed.Goals as goal

pub returns : goal.returns
returns c = well-formed
