use Rattle.std.proofs.Common.{map, ap, ◌∙◌}
use Rattle.std.proofs.lemmas.List.{take_all}
use Rattle.rt_table_row.specs.Columns.{place_of}
use Rattle.rt_table_row.proofs.Stepwise.{mapped-more}
use Rattle.rt_table_row.proofs.arrangement.places_of.Goals as goal

pub loop-column-preserved : goal.loop-column-preserved
loop-column-preserved c =
    mapped-more c.args.columns.now c.loop-column.column-index c.column-item.result c.loop-column-test.true c.column-item.is (place_of c.args.names.now)
    c.place_of.result c.loop-column.places.items c.push.new.self.items c.loop-column.invariant c.in_ok-push.ensures.items c.place_of.ensures

pub returns : goal.returns
returns c = c.loop-column.invariant ∙ ap (map (place_of c.args.names.now)) (take_all c.loop-column.column-index c.args.columns.now c.loop-column-test.false)
