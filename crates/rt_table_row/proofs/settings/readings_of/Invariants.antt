use Rattle.std.proofs.Common.{take}
use Rattle.rt_table_row.specs.Settings.{AreReadings}
use Rattle.rt_table_row.proofs.settings.readings_of.Given as goal

abbrev pub invariant-loop-set : goal.invariant-loop-set
invariant-loop-set l = AreReadings l.columns (take l.set-index l.sets) l.readings.items
