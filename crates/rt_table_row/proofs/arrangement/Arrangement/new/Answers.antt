use Rattle.std.proofs.Common.{rules, refl, ◌≡◌, map}
use Rattle.std.proofs.lemmas.List.{length-map}
use Rattle.rt_table_row.specs.Columns.{place_of}
use Rattle.rt_table_row.proofs.Arranging.{arranged_same}
use Rattle.rt_table_row.proofs.arrangement.Arrangement.new.Goals as goal

pub returns : goal.returns
returns c =
    let places : c.in_ok-places.places.items ≡ map (place_of c.args.names.now) c.args.schema.now.names = rw c.names-2.ensures at c.in_ok-places.ensures in
    record {
      distinct = search rules;
      known = search rules;
      width_is = refl;
      each = rw places (length-map c.args.schema.now.names (place_of c.args.names.now));
      same = λ values. rw places (arranged_same c.args.schema.now.names c.args.names.now values);
    }
