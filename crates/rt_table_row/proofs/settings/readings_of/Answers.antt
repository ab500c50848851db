use Rattle.std.proofs.Common.{◌≡◌, Some, None, inl, refl, sym, arith, ◌∙◌}
use Rattle.rt_table_row.specs.Columns.{place_of}
use Rattle.rt_table_row.specs.Settings.{reading_of}
use Rattle.rt_table_row.proofs.Filling.{readings_more, set_unknown, read_unknown}
use Rattle.rt_table_row.proofs.settings.readings_of.Goals as goal

pub loop-set-preserved : goal.loop-set-preserved
loop-set-preserved c =
    let names = c.args.columns.now in
    let s = c.set-item.result in
    let place : place_of names s.0 ≡ Some c.in-Some.place = sym c.place_of.ensures ∙ c.in-Some.is in
    let reading : reading_of names s.1 ≡ Some c.in-Some-2.reading = sym c.in_ok-reading.ensures ∙ c.in-Some-2.is in
    readings_more names c.args.sets.now c.loop-set.set-index s c.loop-set.readings.items c.in-Some.place c.in-Some-2.reading c.requires.columns c.requires.sets (omega arith) c.set-item.is
    place reading c.loop-set.invariant

pub returns-in_default : goal.returns-in_default
returns-in_default c =
    let none : place_of c.args.columns.now c.set-item.result.0 ≡ None = sym c.place_of.ensures ∙ c.in_default.is in
    inl (refl, set_unknown c.args.columns.now c.args.sets.now c.loop-set.set-index c.set-item.result (omega arith) c.set-item.is none)

pub returns-in_default-2 : goal.returns-in_default-2
returns-in_default-2 c =
    let none : reading_of c.args.columns.now c.set-item.result.1 ≡ None = sym c.in_ok-reading.ensures ∙ c.in_default-2.is in
    inl (refl, read_unknown c.args.columns.now c.args.sets.now c.loop-set.set-index c.set-item.result (omega arith) c.set-item.is none)
