use Rattle.std.proofs.Common.{◌≡◌, ◌++◌, take, map}
use Rattle.std.specs.List.{flat_map}
use Rattle.rt_tree_outside.specs.Outside.{noted, cell_row}
use Rattle.rt_map.specs.TreeBytes.{cell_bytes}
use Rattle.std.specs.Prelude.{All}
use Rattle.rt_map.specs.Written.{IsCellWritten}
use Rattle.rt_map.proofs.writing.push_cells.Given as goal

abbrev pub invariant-loop-at : goal.invariant-loop-at
invariant-loop-at g l = record {
  bytes : l.bytes.items ≡ l.fn.bytes.items ++ flat_map cell_bytes (map (cell_row (noted l.numbers) l.node.level) (take l.at l.node.cells));
  written : All IsCellWritten (map (cell_row (noted l.numbers) l.node.level) (take l.at l.node.cells));
}
