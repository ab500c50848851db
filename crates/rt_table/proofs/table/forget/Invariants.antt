use Rattle.std.proofs.Common.{◌≡◌, filter, not, vec_len}
use Rattle.rt_sql_statement.specs.Name.{same_name}
use Rattle.rt_table_view.specs.declared.view.Watched.{Watched}
use Rattle.rt_table.proofs.table.forget.Given as goal

abbrev pub invariant-loop-at : goal.invariant-loop-at
invariant-loop-at l =
    filter (λ (w : Watched). not (same_name l.name w.name)) l.views.items ≡ filter (λ (w : Watched). not (same_name l.name w.name)) l.fn.views.items

abbrev pub decreases-loop-at : goal.decreases-loop-at
decreases-loop-at l = vec_len l.views
