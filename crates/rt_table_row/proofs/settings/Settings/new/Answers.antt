use Rattle.std.proofs.Common.{rules, inl, inr, sym, ◌∙◌, ⊎_elim}
use Rattle.std.proofs.lemmas.Result.{err_from_is_err_and}
use Rattle.rt_table_row.specs.Settings.{AreReadings, IsBadSettings}
use Rattle.rt_table_row.proofs.Filling.{known_columns, settings_same}
use Rattle.rt_table_row.proofs.Setting.{length-own_fills}
use Rattle.rt_table_row.proofs.settings.Settings.new.Goals as goal

pub returns-in_err-readings : goal.returns-in_err-readings
returns-in_err-readings c =
    let columns = c.args.schema.now in
    let sets = c.args.sets.now in
    let p = err_from_is_err_and c.from_residual-in_err-readings.result c.from_residual-in_err-readings.ensures.1 in
    let why = rw c.names.ensures at c.in_err-readings.ensures in
    let bad : IsBadSettings columns sets c.in_err-readings.field-0.0 =
    ⊎_elim (λ h. inr (inl (h.0, search rules, sym (known_columns columns sets) ∙ h.1))) (λ h. inr (inr h)) why in
    rw (p.1, p.2) bad

pub returns : goal.returns
returns c =
    let columns = c.args.schema.now in
    let sets = c.args.sets.now in
    let is : AreReadings columns.names sets c.in_ok-readings.readings.items = rw c.names.ensures at c.in_ok-readings.ensures in
    record {
      distinct = search rules;
      known = sym (known_columns columns sets) ∙ is.known;
      each = length-own_fills 0 c.in_ok-readings.readings.items ∙ is.each;
      summable = is.summable;
      fits = is.fits;
      same = λ values. settings_same columns.names values sets c.in_ok-readings.readings.items is;
    }
