use Rattle.std.proofs.Common.{◌≡◌, List, Some, None, rules, sym, ap, ◌∙◌, w64, FitsSigned}
use Rattle.std.specs.Option.{option_map}
use Rattle.std.proofs.lemmas.Int.{to_z-of_z}
use Rattle.rt_sql_statement.specs.declared.value.Value.{Value}
use Rattle.rt_tree.specs.Lists.{box_of}
use Rattle.rt_table_row.specs.Rows.{TableRow, row_at}
use Rattle.rt_table_row.specs.Entries.{view_row}
use Rattle.rt_table_store.specs.StoreLists.{StoreLists}
use Rattle.rt_table_store.proofs.Joined.{boxed, row-at}
use Rattle.rt_table_store.proofs.store.Store.get.Goals as goal

pub returns-in_err-rect : goal.returns-in_err-rect
returns-in_err-rect g c =
    let tree = c.self.inside.tree.lists in
    let none : box_of tree c.args.id.now ≡ None = sym c.get.ensures ∙ c.in_err-rect.was in
    ap (option_map view_row) c.from_residual.ensures
    ∙ sym (ap (option_map (boxed tree c.is_in_shape.ensures c.self.inside.auxiliary c.args.id.now)) none)
    ∙ sym (row-at tree c.is_in_shape.ensures c.self.inside.auxiliary c.args.id.now)
    ∙ ap (λ (v : StoreLists g.row.D). row_at v.rows c.args.id.now) c.self.view_is

pub returns : goal.returns
returns g c =
    let tree = c.self.inside.tree.lists in
    let some : box_of tree c.args.id.now ≡ Some c.in_ok-rect.rect = sym c.get.ensures ∙ c.in_ok-rect.was in
    let fits : FitsSigned w64 c.args.id.now = search rules in
    let with_values : List Value → TableRow = λ values. record { id = c.args.id.now; box = c.in_ok-rect.rect; auxiliary = values } in
    rw (to_z-of_z w64 c.args.id.now fits) (
    ap (λ values. Some (with_values values)) c.auxiliary_of.ensures
    ∙ sym (ap (option_map (boxed tree c.is_in_shape.ensures c.self.inside.auxiliary c.args.id.now)) some)
    ∙ sym (row-at tree c.is_in_shape.ensures c.self.inside.auxiliary c.args.id.now)
    ∙ ap (λ (v : StoreLists g.row.D). row_at v.rows c.args.id.now) c.self.view_is
    )
