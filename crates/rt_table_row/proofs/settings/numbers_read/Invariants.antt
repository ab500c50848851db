use Rattle.std.proofs.Common.{◌≡◌, map, take}
use Rattle.rt_table_row.specs.Rows.{values_of}
use Rattle.rt_table_row.specs.Entries.{view_row}
use Rattle.rt_table_row.specs.NewRows.{number_in}
use Rattle.rt_table_row.specs.declared.settings.Reading.{Reading}
use Rattle.rt_table_row.specs.Settings.{read}
use Rattle.rt_table_row.proofs.settings.numbers_read.Given as goal

abbrev pub invariant-loop-reading : goal.invariant-loop-reading
invariant-loop-reading g l = l.numbers.items ≡ map (λ (reading : Reading). number_in (read (values_of (view_row l.row)) reading)) (take l.reading-index l.readings)
