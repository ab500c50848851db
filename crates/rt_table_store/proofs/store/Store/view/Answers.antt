use Rattle.std.proofs.Common.{◌≡◌, List, Some, rules, sym, ap, ◌∙◌, subst, w64, FitsSigned}
use Rattle.std.specs.Option.{option_map}
use Rattle.std.proofs.lemmas.Int.{to_z-of_z}
use Rattle.rt_sql_statement.specs.declared.value.Value.{Value}
use Rattle.rt_table_row.specs.Rows.{TableRow, row_at}
use Rattle.rt_table_store.specs.StoreLists.{StoreLists}
use Rattle.rt_table_store.specs.Trees.{leaf_row}
use Rattle.rt_table_store.proofs.Moved.{viewed}
use Rattle.rt_table_store.proofs.store.Store.view.Goals as goal

pub returns : goal.returns
returns g c =
    let i = c.self.inside in
    let row = c.args.row.now in
    let fits : FitsSigned w64 row.id = search rules in
    let with_values : List Value → TableRow = λ values. record { id = row.id; box = row.rect; auxiliary = values } in
    let old = subst (λ (v : StoreLists g.row.D). option_map leaf_row (row_at v.rows row.id) ≡ Some row) (sym c.self.view_is) c.requires in
    rw (to_z-of_z w64 row.id fits) (
    ap (λ values. Some (with_values values)) c.auxiliary_of.ensures
    ∙ viewed i.tree.lists c.is_in_shape.ensures i.auxiliary row old
    ∙ ap (λ (v : StoreLists g.row.D). row_at v.rows row.id) c.self.view_is
    )
