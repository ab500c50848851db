use Rattle.std.proofs.Common.{◌≡◌, take, All}
use Rattle.rt_box.specs.Rect.{IsBox}
use Rattle.indexmap.specs.IndexMap.{index_map_len}
use Rattle.rt_tree_pack.specs.Packing.{HasEntries}
use Rattle.rt_tree_pack.proofs.entries.enter.Given as goal

abbrev pub invariant-loop-at : goal.invariant-loop-at
invariant-loop-at g l = record {
  entries : HasEntries l.leaves (take l.at l.rows);
  len : index_map_len l.leaves ≡ l.at;
  boxes : All (λ c. IsBox g.row.D c.rect) (take l.at l.rows);
}
