use Rattle.std.proofs.Common.{rules, arith, ◌≡◌, ◌+◌, ◌*◌, true, false, List, get_or, take, FitsSigned, w64, to_z-of_z, inl, sym, ap, ◌∙◌}
use Rattle.std.proofs.lemmas.List.{get_or_read}
use Rattle.std.specs.List.{list_all}
use Rattle.rt_sql_statement.specs.declared.value.Value.{Value}
use Rattle.rt_sql_statement.specs.declared.value.Value.TheVariants.{Null}
use Rattle.rt_table_row.specs.Rows.{values_of}
use Rattle.rt_table_row.specs.Entries.{view_row}
use Rattle.rt_table_row.specs.NewRows.{is_integer, number_in}
use Rattle.rt_table_row.specs.declared.settings.Reading.{Reading}
use Rattle.rt_table_row.specs.declared.settings.Reading.TheVariants.{Literal}
use Rattle.rt_table_row.specs.Settings.{read, reads_integer, reading_fits}
use Rattle.rt_table_row.proofs.Setting.{front_integers, set_type, set_sum, set_all, row_read}
use Rattle.rt_table_row.proofs.settings.entry_of.Goals as goal

pub returns-then-not-are_integers : goal.returns-then-not-are_integers
returns-then-not-are_integers g c =
    let readings = c.args.readings.now in
    let old : List Value = values_of (view_row c.args.row.now) in
    let summable : list_all (reads_integer old) readings ≡ true = search rules in
    let plain : list_all (λ (x : Reading). is_integer (read old x)) c.split_at.result.0.now ≡ false = search rules in
    let front : list_all (λ (x : Reading). is_integer (read old x)) (take (1 + 2 * g.row.D) readings) ≡ false = ap (list_all (λ (x : Reading). is_integer (read old x))) (sym c.split_at.ensures.front) ∙ plain in
    inl (set_type g.row.D readings old summable (sym (front_integers g.row.D (read old) readings c.requires.long) ∙ front))

pub returns-then-not-do_sums_fit : goal.returns-then-not-do_sums_fit
returns-then-not-do_sums_fit g c =
    let readings = c.args.readings.now in
    let old : List Value = values_of (view_row c.args.row.now) in
    let summable : list_all (reads_integer old) readings ≡ true = search rules in
    let plain : list_all (λ (x : Reading). is_integer (read old x)) c.split_at.result.0.now ≡ true = search rules in
    let front : list_all (λ (x : Reading). is_integer (read old x)) (take (1 + 2 * g.row.D) readings) ≡ true = ap (list_all (λ (x : Reading). is_integer (read old x))) (sym c.split_at.ensures.front) ∙ plain in
    let fits : list_all (reading_fits old) readings ≡ false = search rules in
    inl (set_sum g.row.D readings old summable (sym (front_integers g.row.D (read old) readings c.requires.long) ∙ front) fits)

pub returns : goal.returns
returns g c =
    let readings = c.args.readings.now in
    let old : List Value = values_of (view_row c.args.row.now) in
    let summable : list_all (reads_integer old) readings ≡ true = search rules in
    let plain : list_all (λ (x : Reading). is_integer (read old x)) c.split_at.result.0.now ≡ true = search rules in
    let front : list_all (λ (x : Reading). is_integer (read old x)) (take (1 + 2 * g.row.D) readings) ≡ true = ap (list_all (λ (x : Reading). is_integer (read old x))) (sym c.split_at.ensures.front) ∙ plain in
    let fits : list_all (reading_fits old) readings ≡ true = search rules in
    let e = set_all g.row.D readings old summable (sym (front_integers g.row.D (read old) readings c.requires.long) ∙ front) fits in
    let made = row_read g.row.D (read old) readings c.split_at.result.0.now c.split_at.result.1.now c.requires.long c.split_at.ensures.front c.split_at.ensures.back front in
    let id : FitsSigned w64 c.number_read-id.result = search rules in
    let new = rw (to_z-of_z id, c.from_vec.ensures) at c.from_numbers.ensures in
    let first : c.index-plain-0.result ≡ get_or c.split_at.result.0.now 0 (Literal Null) = get_or_read c.split_at.result.0.now 0 c.index-plain-0.result (omega arith) c.index-plain-0.is (Literal Null) in
    let number = c.number_read-id.ensures ∙ ap (λ (r : Reading). number_in (read old r)) first in
    rw (e, made, ← number, ← c.numbers_read-coordinates.ensures, ← c.in_ok-auxiliary.ensures, ← c.as_slice.ensures.value) new
