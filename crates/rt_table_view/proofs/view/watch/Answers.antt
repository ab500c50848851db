use Rattle.std.proofs.Common.{List, map, sym, ap, subst, ◌∙◌}
use Rattle.std.specs.Prelude.{filter}
use Rattle.std.specs.List.{list_any}
use Rattle.std.specs.Ordering.{int_eq}
use Rattle.rt_sql_statement.specs.declared.statement.Test.{Test}
use Rattle.rt_tree_walk.specs.declared.searching.Row.{Row}
use Rattle.rt_table_row.specs.Filters.{admits, IsFilterOf}
use Rattle.rt_table_row.specs.Views.{View}
use Rattle.rt_table_store.proofs.Found.{leaf_ids}
use Rattle.rt_table_view.proofs.Picking.{kept_ids}
use Rattle.rt_table_view.proofs.view.watch.Goals as goal

pub returns-clause-view : goal.returns-clause-view
returns-clause-view g c =
    let named : List Test → View = λ cond. record { name = c.args.name; cond = cond } in
    ap named c.in_ok-filter.ensures.cond_is

pub returns-clause-kept : goal.returns-clause-kept
returns-clause-kept g c =
    let known : IsFilterOf c.args.columns.now c.args.cond c.in_ok-filter.filter = c.in_ok-filter.ensures in
    let p = admits c.in_ok-filter.filter in
    let rows = c.args.store.now.rows in
    record {
      filter_is = subst (λ (cond : List Test). IsFilterOf c.args.columns.now cond c.in_ok-filter.filter) (sym known.cond_is) known;
      ids_are = λ q.
          c.in_ok-ids.ensures q
          ∙ ap (λ (found : List (Row g.row.D)). list_any (int_eq q) (map (λ r. r.id) found)) (c.as_slice.ensures.value ∙ c.in_ok-found.ensures.rows)
          ∙ ap (list_any (int_eq q)) (leaf_ids g.row.D (filter p rows))
          ∙ kept_ids p rows c.facts.ensures.rising q;
    }
