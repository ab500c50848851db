use Rattle.std.proofs.Common.{List, All, rules, subst}
use Rattle.rt_box.specs.declared.interval.Interval.{Interval}
use Rattle.rt_box.specs.Rect.{IsBox}
use Rattle.rt_box.specs.Window.{Admits}
use Rattle.rt_tree_walk.proofs.Picked.{Tells-cells}
use Rattle.rt_tree_nearest.proofs.query.Query.near_cells.Goals as goal

pub returns : goal.returns
returns g c =
    let cells = c.args.node.now.cells in
    let told = Tells-cells (Admits c.args.self.now.window) c.boxes.result.now cells c.admitted.result c.boxes.ensures.value c.admitted.ensures.told in
    record {
      few = search rules;
      below = told.1;
      told = told.0;
      boxes = subst (λ (bs : List (List Interval)). All (IsBox g.row.D) bs) c.boxes.ensures.value c.admitted.ensures.boxes;
    }
