use Rattle.std.proofs.Common.{◌≡◌, ℕ, ◌+◌, ◌*◌, ◌++◌, List, length, map}
use Rattle.std.specs.List.{flat_map}
use Rattle.rt_check.specs.declared.node.RawCell.{RawCell}
use Rattle.rt_tree.specs.Lists.{row_in}
use Rattle.rt_map.specs.TreeBytes.{cell_bytes}
use Rattle.rt_map.specs.ReadingInside.{AreRows}
use Rattle.rt_map.proofs.reading.read_rows.Given as goal

abbrev pub invariant-loop-left : goal.invariant-loop-left
invariant-loop-left g l = record {
  read : (cells : List (RawCell g.row.D)) → AreRows cells → l.bytes ≡ flat_map cell_bytes cells →
      (rest : List (RawCell g.row.D)) × AreRows rest × (l.left ≡ flat_map cell_bytes rest)
      × (l.rows.items ++ map row_in rest ≡ l.fn.rows.items ++ map row_in cells);
  count : (count : ℕ) → length l.bytes ≡ count * l.width →
      (more : ℕ) × (length l.left ≡ more * l.width) × (length l.rows.items + more ≡ length l.fn.rows.items + count);
}

abbrev pub decreases-loop-left : goal.decreases-loop-left
decreases-loop-left g l = length l.left
