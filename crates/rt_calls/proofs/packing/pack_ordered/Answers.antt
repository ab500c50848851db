use Rattle.std.proofs.Common.{refl, rules}
use Rattle.rt_map.specs.Packing.{IsPackedOf}
use Rattle.rt_calls.specs.Packing.{MayPack}
use Rattle.rt_calls.proofs.packing.pack_ordered.Goals as goal

pub returns-in-Ok-from_rows-clause-packed : goal.returns-in-Ok-from_rows-clause-packed
returns-in-Ok-from_rows-clause-packed g c =
    let rows = c.in-Ok-rows_from.rows.items in
    let packed : IsPackedOf c.in-Ok-from_rows.tree.lists c.args.capacity rows = search rules in
    let may : MayPack g.row.D c.args.capacity c.args.ids.now c.args.boxes.now = (c.facts.ensures, c.requires.matched, c.requires.ordered, c.requires.most) in
    (may, (refl, rows, c.in-Ok-rows_from.ensures, packed))
