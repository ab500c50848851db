use Rattle.rt_laws.proofs.Transcripts.{text_one}
use Rattle.rt_laws.proofs.text_is_one.Goals as goal

pub returns : goal.returns
returns c = text_one
