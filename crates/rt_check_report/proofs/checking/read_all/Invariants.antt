use Rattle.rt_bytes.specs.Devices.{source_of}
use Rattle.rt_check_report.proofs.Gathering.{Gathering}
use Rattle.rt_check_report.proofs.checking.read_all.Given as goal

abbrev pub invariant-loop-turn : goal.invariant-loop-turn
invariant-loop-turn g l = Gathering
    (source_of g.R.ByteReader l.initial.reader) (source_of g.R.ByteReader l.reader) l.bytes.items l._turn
