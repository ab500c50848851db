use Rattle.std.proofs.Common.{◌≡◌, ℤ, [], ◌∷◌, ◌++◌, map, FitsSigned, w64, to_z-of_z, rules, ap, ◌∙◌, lit<}
use Rattle.std.proofs.lemmas.List.{take_all}
use Rattle.rt_table_row.specs.Rows.{values_of}
use Rattle.rt_table_row.specs.Entries.{view_row}
use Rattle.rt_table_row.specs.NewRows.{number_in}
use Rattle.rt_table_row.specs.declared.settings.Reading.{Reading}
use Rattle.rt_table_row.specs.Settings.{read}
use Rattle.rt_table_row.proofs.Stepwise.{mapped-more, mapped-room}
use Rattle.rt_table_row.proofs.settings.numbers_read.Goals as goal

pub push-requires : goal.push-requires
push-requires g c =
    let number : Reading → ℤ = λ reading. number_in (read (values_of (view_row c.args.row.now)) reading) in
    (lit< tt, mapped-room c.args.readings.now c.loop-reading.reading-index number c.loop-reading.numbers.items 6 c.loop-reading-test.true c.loop-reading.invariant c.requires.few)

pub loop-reading-preserved : goal.loop-reading-preserved
loop-reading-preserved g c =
    let number : Reading → ℤ = λ reading. number_in (read (values_of (view_row c.args.row.now)) reading) in
    let fits : FitsSigned w64 c.number_read.result = search rules in
    let pushed : c.push.new.self.items ≡ c.loop-reading.numbers.items ++ c.number_read.result ∷ [] = rw (to_z-of_z fits) at c.push.ensures.items in
    mapped-more c.args.readings.now c.loop-reading.reading-index c.reading-item.result c.loop-reading-test.true c.reading-item.is number
    c.number_read.result c.loop-reading.numbers.items c.push.new.self.items c.loop-reading.invariant pushed c.number_read.ensures

pub returns : goal.returns
returns g c =
    let number : Reading → ℤ = λ reading. number_in (read (values_of (view_row c.args.row.now)) reading) in
    c.loop-reading.invariant ∙ ap (map number) (take_all c.loop-reading.reading-index c.args.readings.now c.loop-reading-test.false)
