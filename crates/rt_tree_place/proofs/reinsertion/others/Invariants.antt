use Rattle.std.proofs.Common.{◌++◌, take}
use Rattle.std.specs.List.{range_with_len}
use Rattle.std.specs.List.Sorted.{IsPermutation}
use Rattle.rt_tree_place.specs.Rules.{IsRisingList}
use Rattle.rt_tree_place.proofs.reinsertion.others.Given as goal

abbrev pub invariant-loop-position : goal.invariant-loop-position
invariant-loop-position l = record {
  parted : IsPermutation (range_with_len 0 l.fn.len) (take l.position-index l.positions ++ l.left.items);
  rising : IsRisingList l.left.items;
}
