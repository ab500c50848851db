use Rattle.std.proofs.Common.{map, sym, ◌∙◌}
use Rattle.std.proofs.lemmas.List.{length-map}
use Rattle.rt_box.specs.Window.{Admits}
use Rattle.rt_tree_walk.specs.Search.{row_of}
use Rattle.rt_tree_walk.specs.Visits.{picked}
use Rattle.rt_tree_walk.proofs.Picked.{Tells-cells, length-picked, TakesRows-picked}
use Rattle.rt_tree_walk.proofs.counting.count_admitted.Goals as goal

pub returns : goal.returns
returns g c =
    let cells = c.args.leaf.now.cells in
    let window = c.args.window.now in
    let bits = c.admitted.result in
    let told = Tells-cells (Admits window) c.boxes_of.result.now cells bits c.boxes_of.ensures.value c.admitted.ensures.told in
    record {
      rows = map row_of (picked cells bits);
      takes = TakesRows-picked window cells bits told.0;
      counted = sym (length-map (picked cells bits) row_of ∙ length-picked cells bits told.1);
    }
