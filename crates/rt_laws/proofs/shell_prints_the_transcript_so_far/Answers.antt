use Rattle.rt_laws.proofs.Parts.{parts_printed}
use Rattle.rt_laws.proofs.shell_prints_the_transcript_so_far.Goals as goal

pub returns : goal.returns
returns c = parts_printed
