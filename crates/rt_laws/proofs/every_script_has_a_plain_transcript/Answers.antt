use Rattle.rt_laws.proofs.TranscriptLemmas.{plain_transcript}
use Rattle.rt_laws.proofs.every_script_has_a_plain_transcript.Goals as goal

pub returns : goal.returns
returns c = plain_transcript
