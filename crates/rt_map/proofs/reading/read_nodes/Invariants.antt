use Rattle.std.proofs.Common.{◌≡◌, ◌+◌, ◌++◌, List, length, map}
use Rattle.std.specs.List.{flat_map}
use Rattle.rt_check.specs.declared.node.NodeRow.{NodeRow}
use Rattle.rt_check.specs.Conditions.{leaf_cells}
use Rattle.rt_tree.specs.Lists.{row_in}
use Rattle.rt_map.specs.TreeBytes.{node_bytes}
use Rattle.rt_map.specs.ReadingInside.{AreNodes, shape_in}
use Rattle.rt_map.proofs.reading.read_nodes.Given as goal

abbrev pub invariant-loop-left : goal.invariant-loop-left
invariant-loop-left g l = record {
  read : (nodes : List (NodeRow g.row.D)) → AreNodes nodes → l.bytes ≡ flat_map node_bytes nodes →
      (rest : List (NodeRow g.row.D)) × AreNodes rest × (l.left ≡ flat_map node_bytes rest)
      × (l.parts.capacity ≡ l.fn.parts.capacity)
      × (l.parts.shapes.items ++ map shape_in rest ≡ l.fn.parts.shapes.items ++ map shape_in nodes)
      × (l.parts.rows.items ++ map row_in (leaf_cells rest) ≡ l.fn.parts.rows.items ++ map row_in (leaf_cells nodes));
  count : (nodes : List (NodeRow g.row.D)) × (flat_map node_bytes nodes ++ l.left ≡ l.bytes)
      × (length l.parts.rows.items ≡ length l.fn.parts.rows.items + length (leaf_cells nodes)) × (l.parts.capacity ≡ l.fn.parts.capacity);
}

abbrev pub decreases-loop-left : goal.decreases-loop-left
decreases-loop-left g l = length l.left
