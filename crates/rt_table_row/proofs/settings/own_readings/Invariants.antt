use Rattle.std.proofs.Common.{◌≡◌, ℕ, ◌<◌, get_or, length}
use Rattle.rt_sql_statement.specs.declared.value.Value.TheVariants.{Null}
use Rattle.rt_table_row.specs.declared.settings.Reading.TheVariants.{Literal, Column}
use Rattle.rt_table_row.proofs.settings.own_readings.Given as goal

abbrev pub invariant-loop-place : goal.invariant-loop-place
invariant-loop-place l = record {
  long : length l.readings.items ≡ l.place;
  own : (place : ℕ) → place < l.place → get_or l.readings.items place (Literal Null) ≡ Column place;
}
