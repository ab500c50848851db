use Rattle.std.proofs.Common.{◌≡◌, map, take}
use Rattle.rt_table_row.specs.Rows.{values_of}
use Rattle.rt_table_row.specs.Entries.{view_row}
use Rattle.rt_table_row.specs.Settings.{read}
use Rattle.rt_table_row.proofs.settings.all_read.Given as goal

abbrev pub invariant-loop-reading : goal.invariant-loop-reading
invariant-loop-reading g l = l.values.items ≡ map (read (values_of (view_row l.row))) (take l.reading-index l.readings)
