use Rattle.std.proofs.Common.{rules, ◌+◌, ◌^◌, ◌<◌, ◌++◌, List, All, length, map, refl, subst, arith, vec_capacity, vec_len}
use Rattle.std.proofs.lemmas.List.{length-append, length-map}
use Rattle.std.proofs.lemmas.Result.{on_ok_weaker, on_err_weaker}
use Rattle.rt_box.specs.declared.interval.Interval.{Interval}
use Rattle.rt_box.specs.Rect.{IsBox}
use Rattle.rt_box.specs.Window.{Admits}
use Rattle.rt_tree_node.specs.Places.{key_of}
use Rattle.rt_tree_walk.specs.declared.searching.Reached.{Reached}
use Rattle.rt_tree_walk.specs.Visits.{picked, keys_of}
use Rattle.rt_tree_walk.proofs.Taking.{TakesChildren-behind}
use Rattle.rt_tree_walk.proofs.Picked.{Tells-cells, TakesChildren-picked}
use Rattle.rt_tree_walk.proofs.searching.take_children.Goals as goal

pub push_children-requires : goal.push_children-requires
push_children-requires g c =
    let cells = c.args.node.now.cells in
    let bits = c.admitted-bits.result in
    let below : bits < 2 ^ length cells = (Tells-cells (Admits c.args.query.now.reach) c.boxes_of.result.now cells bits c.boxes_of.ensures.value c.admitted-bits.ensures.told).1 in
    search rules

pub returns-clause-children : goal.returns-clause-children
returns-clause-children g c =
    let cells = c.args.node.now.cells in
    let window = c.args.query.now.window in
    let reach = c.args.query.now.reach in
    let bits = c.admitted-bits.result in
    let told = (Tells-cells (Admits reach) c.boxes_of.result.now cells bits c.boxes_of.ensures.value c.admitted-bits.ensures.told).0 in
    let boxes = subst (λ (bs : List (List Interval)). All (IsBox g.row.D) bs) c.boxes_of.ensures.value c.admitted-bits.ensures.boxes in
    on_ok_weaker c.push_children.result
    (TakesChildren-behind window cells (keys_of c.args.reached.now.items) (keys_of c.push_children.new.reached.items) (map key_of (picked cells bits))
    (TakesChildren-picked window reach cells bits c.requires.reach boxes told))
    c.push_children.ensures.keys

pub returns-clause-full : goal.returns-clause-full
returns-clause-full g c =
    let cells = c.args.node.now.cells in
    let window = c.args.query.now.window in
    let reach = c.args.query.now.reach in
    let reached = c.args.reached.now in
    let bits = c.admitted-bits.result in
    let told = (Tells-cells (Admits reach) c.boxes_of.result.now cells bits c.boxes_of.ensures.value c.admitted-bits.ensures.told).0 in
    let boxes = subst (λ (bs : List (List Interval)). All (IsBox g.row.D) bs) c.boxes_of.ensures.value c.admitted-bits.ensures.boxes in
    let more = map key_of (picked cells bits) in
    on_err_weaker c.push_children.result
    (λ (full : vec_capacity reached < vec_len reached + length (picked cells bits)). record {
      keys1 = keys_of reached.items ++ more;
      takes = TakesChildren-behind window cells (keys_of reached.items) (keys_of reached.items ++ more) more
          (TakesChildren-picked window reach cells bits c.requires.reach boxes told) refl;
      full = omega (arith, full, length-append (keys_of reached.items) more, length-map (picked cells bits) key_of, length-map reached.items (λ (d : Reached). d.key));
    })
    c.push_children.ensures.full
