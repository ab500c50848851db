use Rattle.rt_laws.proofs.Transcripts.{so_far_one}
use Rattle.rt_laws.proofs.transcript_so_far_is_determined.Goals as goal

pub returns : goal.returns
returns c = so_far_one
