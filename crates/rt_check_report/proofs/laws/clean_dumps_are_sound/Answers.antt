use Rattle.rt_check_report.proofs.Soundness.{clean-sound}
use Rattle.rt_check_report.proofs.laws.clean_dumps_are_sound.Goals as goal

pub returns : goal.returns
returns c = clean-sound
