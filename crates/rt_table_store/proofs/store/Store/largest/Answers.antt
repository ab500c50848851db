use Rattle.std.proofs.Common.{ap, ◌∙◌}
use Rattle.rt_table_row.specs.Rows.{largest_id}
use Rattle.rt_table_store.specs.StoreLists.{StoreLists}
use Rattle.rt_table_store.proofs.Top.{largest-is}
use Rattle.rt_table_store.proofs.store.Store.largest.Goals as goal

pub returns : goal.returns
returns g c =
    let i = c.self.inside in
    largest-is i.tree.lists c.is_in_shape.ensures i.auxiliary i.largest c.self.invariant.ranks c.get.result c.get.ensures
    ∙ ap (λ (v : StoreLists g.row.D). largest_id v.rows) c.self.view_is
