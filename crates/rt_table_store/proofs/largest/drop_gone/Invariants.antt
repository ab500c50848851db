use Rattle.std.proofs.Common.{◌≡◌, vec_len, vec_capacity}
use Rattle.std.specs.Prelude.{is_some}
use Rattle.std.specs.List.Sorted.{IsSorted}
use Rattle.std.specs.Ordering.{int_cmp}
use Rattle.rt_tree.specs.Lists.{box_of}
use Rattle.rt_table_store.specs.GreatestIds.{IsUpward}
use Rattle.rt_table_store.proofs.largest.drop_gone.Given as goal

abbrev pub invariant-loop-id : goal.invariant-loop-id
invariant-loop-id g l = record {
  upward : IsUpward (λ id. is_some (box_of l.tree.lists id)) l.fn.ids.items → IsUpward (λ id. is_some (box_of l.tree.lists id)) l.ids.items;
  order : IsSorted int_cmp l.ids.items;
  capacity : vec_capacity l.ids ≡ vec_capacity l.fn.ids;
}

abbrev pub decreases-loop-id : goal.decreases-loop-id
decreases-loop-id g l = vec_len l.ids
