use Rattle.std.proofs.Common.{map, ap, ◌∙◌}
use Rattle.std.proofs.lemmas.List.{take_all}
use Rattle.rt_table_row.specs.Rows.{values_of}
use Rattle.rt_table_row.specs.Entries.{view_row}
use Rattle.rt_table_row.specs.Settings.{read}
use Rattle.rt_table_row.proofs.Stepwise.{mapped-more}
use Rattle.rt_table_row.proofs.settings.all_read.Goals as goal

pub loop-reading-preserved : goal.loop-reading-preserved
loop-reading-preserved g c =
    mapped-more c.args.readings.now c.loop-reading.reading-index c.reading-item.result c.loop-reading-test.true c.reading-item.is (read (values_of (view_row c.args.row.now)))
    c.in_ok-read.field-0 c.loop-reading.values.items c.push.new.self.items c.loop-reading.invariant c.in_ok-push.ensures.items c.in_ok-read.ensures

pub returns : goal.returns
returns g c = c.loop-reading.invariant ∙ ap (map (read (values_of (view_row c.args.row.now)))) (take_all c.loop-reading.reading-index c.args.readings.now c.loop-reading-test.false)
