use Rattle.std.proofs.Common.{None}
use Rattle.rt_live.proofs.Found.{searched, finds_alone}
use Rattle.rt_live.proofs.finding.search_hull.Goals as goal

pub returns-clause-rows : goal.returns-clause-rows
returns-clause-rows g c =
    let s = c.args.tree.now.lists in
    let found = c.search_into.new.rows.items in
    searched s c.has_boxes.ensures c.args.hull.now c.touching.result c.touching.ensures None found c.in_ok-search_into.field-0
    (finds_alone s c.touching.result c.clear.new.self.items found c.in_ok-search_into.field-0 c.clear.ensures.items c.in_ok-search_into.ensures.ok)
