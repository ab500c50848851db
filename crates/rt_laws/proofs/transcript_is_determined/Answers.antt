use Rattle.rt_laws.proofs.Transcripts.{transcript_one}
use Rattle.rt_laws.proofs.transcript_is_determined.Goals as goal

pub returns : goal.returns
returns c = transcript_one
