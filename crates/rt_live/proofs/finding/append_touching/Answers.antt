use Rattle.std.proofs.Common.{◌≡◌, ◌∙◌, ◌++◌, List, Some, length, arith, ap}
use Rattle.std.specs.List.{filter}
use Rattle.std.proofs.lemmas.List.{length-append}
use Rattle.std.proofs.lemmas.Result.{on_ok_weaker}
use Rattle.rt_tree_walk.specs.declared.searching.Row.{Row}
use Rattle.rt_tree.specs.Search.{FindsIn}
use Rattle.rt_tree.specs.Lists.{rows_of}
use Rattle.rt_live.specs.Finding.{is_apart, is_new}
use Rattle.rt_live.proofs.Found.{appended, finds_alone, counts-touching}
use Rattle.rt_live.proofs.Room.{appended-long, ok-without, err-not-ok}
use Rattle.rt_live.proofs.finding.append_touching.Goals as goal

pub returns-clause-rows : goal.returns-clause-rows
returns-clause-rows g c =
    let s = c.args.tree.now.lists in
    let old = c.args.scratch.now.found.items in
    let reached = c.search_into.new.rows.items in
    let finds : FindsIn s c.touching.result reached c.in_ok-search_into.field-0 =
    finds_alone s c.touching.result c.clear.new.self.items reached c.in_ok-search_into.field-0 c.clear.ensures.items c.in_ok-search_into.ensures.ok in
    on_ok_weaker c.push_apart.result
    (λ (is : c.push_apart.new.found.items ≡ old ++ filter (is_apart c.args.except.now) c.as_slice.result.now).
    appended s c.has_boxes.ensures c.args.rect.now c.touching.result c.touching.ensures c.args.except.now reached old c.push_apart.new.found.items c.in_ok-search_into.field-0 finds
    (is ∙ ap (λ (rows : List (Row g.row.D)). old ++ filter (is_apart c.args.except.now) rows) c.as_slice.ensures.value))
    c.push_apart.ensures.rows

pub returns-in_err-search_into-clause-succeeds : goal.returns-in_err-search_into-clause-succeeds
returns-in_err-search_into-clause-succeeds g c = λ room.
    let s = c.args.tree.now.lists in
    absurd (err-not-ok c.search_into.result _ c.in_err-search_into.was (c.search_into.ensures.succeeds (record {
      count = _;
      counts = counts-touching s c.has_boxes.ensures c.args.rect.now c.touching.result c.touching.ensures c.args.except.now;
      rows_fit = omega (arith, room.last, ap length c.clear.ensures.items, c.clear.ensures.capacity);
      nodes_fit = room.reached;
    })))

pub returns-clause-succeeds : goal.returns-clause-succeeds
returns-clause-succeeds g c = λ room.
    let s = c.args.tree.now.lists in
    let old = c.args.scratch.now.found.items in
    let reached = c.search_into.new.rows.items in
    let kept = filter (is_apart c.args.except.now) c.as_slice.result.now in
    let finds : FindsIn s c.touching.result reached c.in_ok-search_into.field-0 =
    finds_alone s c.touching.result c.clear.new.self.items reached c.in_ok-search_into.field-0 c.clear.ensures.items c.in_ok-search_into.ensures.ok in
    let so = appended s c.has_boxes.ensures c.args.rect.now c.touching.result c.touching.ensures c.args.except.now reached old (old ++ kept) c.in_ok-search_into.field-0 finds
    (ap (λ (rows : List (Row g.row.D)). old ++ filter (is_apart c.args.except.now) rows) c.as_slice.ensures.value) in
    let long = appended-long (rows_of s) (is_new (Some c.args.rect.now) c.args.except.now) old (old ++ kept) so in
    ok-without c.push_apart.result c.push_apart.ensures.full (λ full. omega (arith, full, long, length-append old kept, room.found))
