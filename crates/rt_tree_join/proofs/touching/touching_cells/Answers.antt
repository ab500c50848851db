use Rattle.std.proofs.Common.{List, All, subst}
use Rattle.rt_box.specs.declared.interval.Interval.{Interval}
use Rattle.rt_box.specs.Rect.{IsBox}
use Rattle.rt_box.specs.Window.{Admits}
use Rattle.rt_tree_walk.proofs.Picked.{Tells-cells}
use Rattle.rt_tree_join.proofs.Boxes.{picked-later}
use Rattle.rt_tree_join.proofs.touching.touching_cells.Goals as goal

pub returns-clause-within : goal.returns-clause-within
returns-clause-within g c =
    let cells = c.args.node.now.cells in
    let told = (Tells-cells (Admits c.touching.result) c.boxes.result.now cells c.admitted.result c.boxes.ensures.value c.admitted.ensures.told).0 in
    let boxes = subst (λ (bs : List (List Interval)). All (IsBox g.row.D) bs) c.boxes.ensures.value c.admitted.ensures.boxes in
    (picked-later c.args.from c.args.rect.now c.touching.result cells c.admitted.result c.requires c.touching.ensures boxes told).1

pub returns-clause-cells : goal.returns-clause-cells
returns-clause-cells g c =
    let cells = c.args.node.now.cells in
    let told = (Tells-cells (Admits c.touching.result) c.boxes.result.now cells c.admitted.result c.boxes.ensures.value c.admitted.ensures.told).0 in
    let boxes = subst (λ (bs : List (List Interval)). All (IsBox g.row.D) bs) c.boxes.ensures.value c.admitted.ensures.boxes in
    (picked-later c.args.from c.args.rect.now c.touching.result cells c.admitted.result c.requires c.touching.ensures boxes told).0
