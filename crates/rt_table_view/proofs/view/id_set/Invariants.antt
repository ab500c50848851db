use Rattle.std.proofs.Common.{◌≡◌, ℤ, map, take}
use Rattle.std.specs.List.{list_any}
use Rattle.std.specs.Ordering.{int_eq}
use Rattle.rt_tree_walk.specs.declared.searching.Row.{Row}
use Rattle.rt_table_view.proofs.view.id_set.Given as goal

abbrev pub invariant-loop-row : goal.invariant-loop-row
invariant-loop-row g l = (q : ℤ) → list_any (int_eq q) l.set.keys ≡ list_any (int_eq q) (map (λ (r : Row g.row.D). r.id) (take l.row-index l.rows))
