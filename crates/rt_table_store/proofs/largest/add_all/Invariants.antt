use Rattle.std.proofs.Common.{◌≤◌, ◌||◌, ℤ, Bool, take, vec_capacity}
use Rattle.std.specs.List.{list_any}
use Rattle.std.specs.List.Sorted.{IsSorted}
use Rattle.std.specs.Ordering.{int_cmp, int_eq}
use Rattle.rt_table_store.specs.GreatestIds.{Ranks}
use Rattle.rt_table_store.proofs.largest.add_all.Given as goal

abbrev pub invariant-loop-id : goal.invariant-loop-id
invariant-loop-id l = record {
  ranks : (there : ℤ → Bool) → Ranks there l.fn.ids.items → Ranks (λ id. list_any (int_eq id) (take l.id-index l.more) || there id) l.ids.items;
  order : IsSorted int_cmp l.ids.items;
  capacity : vec_capacity l.fn.ids ≤ vec_capacity l.ids;
}
