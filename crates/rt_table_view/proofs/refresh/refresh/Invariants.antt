use Rattle.std.proofs.Common.{◌≡◌, ◌≤◌, ◌+◌, ℤ, Bool, take, length}
use Rattle.std.specs.Prelude.{if◌then◌else◌}
use Rattle.std.specs.List.{All, list_any}
use Rattle.std.specs.Ordering.{int_eq}
use Rattle.indexmap.specs.IndexSet.{spare}
use Rattle.rt_table_view.specs.Watching.{shifted_ids}
use Rattle.rt_table_view.proofs.refresh.refresh.Given as goal

abbrev pub invariant-loop-shift : goal.invariant-loop-shift
invariant-loop-shift l = record {
  ids : (is_in : ℤ → Bool) → All (λ s. s.is_in ≡ is_in s.id) l.shift-items → (q : ℤ) → list_any (int_eq q) l.view.ids.keys
      ≡ (if list_any (int_eq q) (shifted_ids (take l.shift-index l.shift-items)) then is_in q else list_any (int_eq q) l.fn.view.ids.keys);
  room : length l.shift-items ≤ spare l.view.ids + l.shift-index;
  name : l.view.name ≡ l.fn.view.name;
  same_filter : l.view.filter ≡ l.fn.view.filter;
}
