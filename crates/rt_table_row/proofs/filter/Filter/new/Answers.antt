use Rattle.std.proofs.Common.{refl}
use Rattle.rt_table_row.specs.Filters.{places_at, ArePlaces}
use Rattle.rt_table_row.proofs.Filters.{admits_same, has_columns_from}
use Rattle.rt_table_row.proofs.filter.Filter.new.Goals as goal

pub returns : goal.returns
returns c =
    let found : ArePlaces c.args.schema.now.names c.args.cond (places_at c.in_ok-places.places) = rw c.as_slice.ensures at c.in_ok-places.ensures in
    record {
      known = has_columns_from c.args.schema.now c.args.cond (places_at c.in_ok-places.places) found;
      cond_is = refl;
      places_are = found;
      same = λ row. admits_same c.args.schema.now c.args.cond (places_at c.in_ok-places.places) row found;
    }
