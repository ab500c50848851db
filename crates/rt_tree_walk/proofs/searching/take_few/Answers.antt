use Rattle.std.proofs.Common.{rules, ◌+◌, ◌^◌, ◌<◌, ◌++◌, length, map, refl, arith, vec_capacity, vec_len}
use Rattle.std.proofs.lemmas.List.{length-append, length-map}
use Rattle.std.proofs.lemmas.Result.{on_ok_weaker, on_err_weaker}
use Rattle.rt_box.specs.Window.{Admits}
use Rattle.rt_tree_walk.specs.Search.{row_of}
use Rattle.rt_tree_walk.specs.Visits.{picked}
use Rattle.rt_tree_walk.proofs.Taking.{TakesRows-behind}
use Rattle.rt_tree_walk.proofs.Picked.{Tells-cells, TakesRows-picked}
use Rattle.rt_tree_walk.proofs.searching.take_few.Goals as goal

pub push_rows-requires : goal.push_rows-requires
push_rows-requires g c =
    let cells = c.args.leaf.now.cells in
    let bits = c.admitted-bits.result in
    let below : bits < 2 ^ length cells = (Tells-cells (Admits c.args.window.now) c.boxes_of.result.now cells bits c.boxes_of.ensures.value c.admitted-bits.ensures.told).1 in
    search rules

pub returns-clause-ok : goal.returns-clause-ok
returns-clause-ok g c =
    let cells = c.args.leaf.now.cells in
    let window = c.args.window.now in
    let bits = c.admitted-bits.result in
    let told = (Tells-cells (Admits window) c.boxes_of.result.now cells bits c.boxes_of.ensures.value c.admitted-bits.ensures.told).0 in
    on_ok_weaker c.push_rows.result
    (TakesRows-behind window cells c.args.rows.now.items c.push_rows.new.rows.items (map row_of (picked cells bits)) (TakesRows-picked window cells bits told))
    c.push_rows.ensures.ok

pub returns-clause-full : goal.returns-clause-full
returns-clause-full g c =
    let cells = c.args.leaf.now.cells in
    let window = c.args.window.now in
    let rows = c.args.rows.now in
    let bits = c.admitted-bits.result in
    let told = (Tells-cells (Admits window) c.boxes_of.result.now cells bits c.boxes_of.ensures.value c.admitted-bits.ensures.told).0 in
    let more = map row_of (picked cells bits) in
    on_err_weaker c.push_rows.result
    (λ (full : vec_capacity rows < vec_len rows + length (picked cells bits)). record {
      rows1 = rows.items ++ more;
      takes = TakesRows-behind window cells rows.items (rows.items ++ more) more (TakesRows-picked window cells bits told) refl;
      full = omega (arith, full, length-append rows.items more, length-map (picked cells bits) row_of);
    })
    c.push_rows.ensures.full
