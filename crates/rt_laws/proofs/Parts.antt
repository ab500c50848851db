-- What a shell has printed, piece by piece.
use Rattle.rt_shell.proofs.Printed.{printed_by}
use Rattle.rt_laws.specs.ScriptLaws.{ShellPrintsTheTranscriptSoFar}

pub parts_printed : ShellPrintsTheTranscriptSoFar
parts_printed options shell fed out printed =
    let transcript = printed_by options shell fed out printed in
    let text = transcript.1.3 in
    (transcript.0, text.0, (transcript.1.0, transcript.1.1, transcript.1.2, text.1), text.2)
