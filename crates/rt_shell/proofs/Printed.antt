-- What a shell has printed is the transcript of what it was fed.
use Rattle.rt_shell.specs.declared.engine.Options.{Options}
use Rattle.rt_shell.specs.declared.shell.Shell.{Shell}
use Rattle.rt_shell.specs.Transcript.{MayPrintSoFar}
use Rattle.rt_shell.specs.Shell.{HasPrinted}
use Rattle.rt_shell.proofs.Shells.{not_some, so_far_at}
use Rattle.std.specs.Prelude.{List, ℕ}
use Rattle.rt_sql_cut.specs.Cutter.{ready_piece}

pub printed_by : (options : Options) (shell : Shell) (fed out : List ℕ) → HasPrinted options shell fed out → MayPrintSoFar options fed out
printed_by options shell fed out printed = so_far_at shell.flow options shell.engine fed out (not_some (ready_piece shell.engine.cutter) shell.idle) printed
