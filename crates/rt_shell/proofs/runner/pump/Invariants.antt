use Rattle.std.proofs.Common.{◌+◌, ◌≤◌, []}
use Rattle.rt_bytes.specs.Devices.{devices_of}
use Rattle.rt_shell.specs.declared.engine.Options.{Options}
use Rattle.rt_shell.specs.Shell.{HasPrinted}
use Rattle.rt_shell.proofs.Pumping.{Pumping}
use Rattle.rt_shell.proofs.runner.pump.Given as goal

abbrev pub invariant-loop-turn : goal.invariant-loop-turn
invariant-loop-turn g l = record {
  reads : g.R.ByteReader.reads l.reader ≤ g.R.ByteReader.reads l.initial.reader + l._turn;
  pumps : (options : Options) → HasPrinted options l.initial.shell [] [] → Pumping options l.shell
      (devices_of g.R.ByteReader g.W.ByteWriter l.initial.reader l.initial.writer)
      (devices_of g.R.ByteReader g.W.ByteWriter l.reader l.writer)
      l._turn;
}
