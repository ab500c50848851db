use Rattle.std.proofs.Common.{◌≡◌, true, false, rules, sym, ap, subst, ◌∙◌}
use Rattle.std.specs.Prelude.{filter}
use Rattle.std.proofs.lemmas.List.{take_all}
use Rattle.rt_tree_walk.specs.declared.searching.Row.{Row}
use Rattle.rt_table_row.specs.Rows.{TableRow}
use Rattle.rt_table_row.specs.Entries.{view_row}
use Rattle.rt_table_row.specs.Filters.{admits}
use Rattle.rt_table_store.specs.Picking.{Stands, passes}
use Rattle.rt_table_store.proofs.Passing.{one-kept, one-left}
use Rattle.rt_table_store.proofs.store.Store.passing_rows.Goals as goal

pub view-requires : goal.view-requires
view-requires g c = (
  search rules,
  (
    search rules,
    (
      search rules,
      subst (λ (r : Row g.row.D). Stands c.args.self.now.rows r) (sym c.row-item.is) (c.requires.stand c.loop-row.row-index c.row-item.result c.loop-row-test.true),
    ),
  ),
)

pub loop-row-preserved-then-not-holds : goal.loop-row-preserved-then-not-holds
loop-row-preserved-then-not-holds g c =
    let view : TableRow = view_row c.view.result in
    let fails : admits c.args.condition.now view ≡ false = search rules in
    one-left (admits c.args.condition.now) c.args.self.now.rows c.args.rows.now c.loop-row.row-index c.row-item.result view c.loop-row-test.true c.row-item.is c.view.ensures
    c.loop-row.kept.items fails c.loop-row.invariant

pub loop-row-preserved : goal.loop-row-preserved
loop-row-preserved g c =
    let view : TableRow = view_row c.view.result in
    let holds : admits c.args.condition.now view ≡ true = search rules in
    one-kept (admits c.args.condition.now) c.args.self.now.rows c.args.rows.now c.loop-row.row-index c.row-item.result view c.loop-row-test.true c.row-item.is c.view.ensures
    c.loop-row.kept.items c.push.new.self.items holds c.loop-row.invariant c.in_ok-push.ensures.items

pub returns : goal.returns
returns g c =
    c.loop-row.invariant ∙ ap (filter (passes (admits c.args.condition.now) c.args.self.now.rows)) (take_all c.loop-row.row-index c.args.rows.now c.loop-row-test.false)
