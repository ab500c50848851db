use Rattle.std.proofs.Common.{◌≡◌, ◌++◌, take, map}
use Rattle.std.specs.List.{flat_map}
use Rattle.slab.specs.Slab.{get}
use Rattle.rt_tree_outside.specs.Outside.{noted, node_row}
use Rattle.rt_map.specs.TreeBytes.{node_bytes}
use Rattle.std.specs.Prelude.{All}
use Rattle.rt_map.specs.Written.{IsNodeWritten}
use Rattle.rt_map.proofs.writing.push_nodes.Given as goal

abbrev pub invariant-loop-key : goal.invariant-loop-key
invariant-loop-key g l = record {
  bytes : l.bytes.items ≡ l.fn.bytes.items ++ flat_map node_bytes (map (λ key. node_row (noted l.numbers) key (get l.tree.nodes key)) (take l.key-index l.order));
  written : All IsNodeWritten (map (λ key. node_row (noted l.numbers) key (get l.tree.nodes key)) (take l.key-index l.order));
}
