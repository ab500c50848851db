use Rattle.std.proofs.Common.{◌≡◌, take}
use Rattle.std.specs.List.{list_any}
use Rattle.rt_sql_cut.specs.CutterStep.{is_mark}
use Rattle.rt_sql_cut.proofs.cutter.has_mark.Given as goal

abbrev pub invariant-loop-byte : goal.invariant-loop-byte
invariant-loop-byte l = l.found ≡ list_any is_mark (take l.byte-index l.block)
