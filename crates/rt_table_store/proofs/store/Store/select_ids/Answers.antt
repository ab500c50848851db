use Rattle.std.proofs.Common.{map, ap, ◌∙◌}
use Rattle.std.specs.Prelude.{filter}
use Rattle.rt_table_row.specs.Filters.{admits}
use Rattle.rt_tree_walk.specs.declared.searching.Row.{Row}
use Rattle.rt_table_store.proofs.Found.{leaf_ids}
use Rattle.rt_table_store.proofs.store.Store.select_ids.Goals as goal

pub returns-in-Some : goal.returns-in-Some
returns-in-Some g c =
    c.in_ok-ids.ensures ∙ ap (map (λ (r : Row g.row.D). r.id)) c.as_slice.ensures.value ∙ ap (map (λ (r : Row g.row.D). r.id)) c.in_ok-found.ensures.rows ∙ leaf_ids g.row.D (filter (admits c.args.condition.now) c.args.self.now.rows)
