use Rattle.std.proofs.Common.{◌≡◌, [], map, ◌∙◌}
use Rattle.rt_table_row.specs.Columns.{place_of}
use Rattle.rt_table_row.specs.Arrangements.{own_places}
use Rattle.rt_table_row.proofs.Arranging.{arranged_same, length-own_places, places_own}
use Rattle.rt_table_row.proofs.Setting.{own_rest}
use Rattle.rt_table_row.proofs.arrangement.Arrangement.whole.Goals as goal

pub returns : goal.returns
returns c =
    let names = c.args.schema.now.names in
    let width = c.len-width.result in
    let places : own_places width ≡ map (place_of names) names = places_own names width c.facts.ensures.distinct c.len-width.ensures.value in
    record {
      distinct = c.facts.ensures.distinct;
      known = own_rest [] names;
      width_is = c.len-width.ensures.value;
      each = length-own_places width ∙ c.len-width.ensures.value;
      same = λ values. rw places (arranged_same names names values);
    }
