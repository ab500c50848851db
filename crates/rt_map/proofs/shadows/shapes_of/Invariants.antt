use Rattle.std.proofs.Common.{◌≡◌, take, map, All}
use Rattle.rt_map.specs.ReadingInside.{shape_in}
use Rattle.rt_tree_one.specs.Laws.{HaveAxes}
use Rattle.rt_map.proofs.shadows.shapes_of.Given as goal

abbrev pub invariant-loop-node : goal.invariant-loop-node
invariant-loop-node g l = record {
  shapes : l.shapes.items ≡ map shape_in (take l.node-index l.shadow.nodes);
  axes : All HaveAxes (take l.node-index l.shadow.nodes);
}
