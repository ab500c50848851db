use Rattle.std.proofs.Common.{sym, ap, ◌∙◌}
use Rattle.std.specs.Option.{is_some}
use Rattle.rt_tree.specs.Lists.{box_of}
use Rattle.rt_table_row.specs.Rows.{has_id}
use Rattle.rt_table_store.specs.StoreLists.{StoreLists}
use Rattle.rt_table_store.specs.StoreInside.{rows_in}
use Rattle.rt_table_store.proofs.Joined.{boxed, row-at}
use Rattle.rt_table_store.proofs.Moved.{has-row, mapped}
use Rattle.rt_table_store.proofs.store.Store.contains.Goals as goal

pub returns : goal.returns
returns g c =
    let tree = c.self.inside.tree.lists in
    let auxiliary = c.self.inside.auxiliary in
    let id = c.args.id.now in
    c.contains.ensures
    ∙ sym (mapped (boxed tree c.is_in_shape.ensures auxiliary id) (box_of tree id))
    ∙ ap is_some (sym (row-at tree c.is_in_shape.ensures auxiliary id))
    ∙ sym (has-row (rows_in tree auxiliary) id)
    ∙ ap (λ (v : StoreLists g.row.D). has_id v.rows id) c.self.view_is
