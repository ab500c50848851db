use Rattle.std.proofs.Common.{◌≡◌, true, [], arith, subst}
use Rattle.std.specs.Prelude.{All}
use Rattle.indexmap.specs.IndexMap.{index_map_len}
use Rattle.rt_table_store.specs.StoreLists.{StoreLists}
use Rattle.rt_table_store.proofs.Bare.{bare}
use Rattle.rt_table_store.proofs.store.Store.has_auxiliary.Goals as goal

pub returns : goal.returns
returns g c = λ without.
    let i = c.self.inside in
    let empty : c.is_empty.result ≡ true = grind (arith, without) in
    let none : index_map_len i.auxiliary ≡ 0 = c.is_empty.ensures.0 empty in
    subst (λ (v : StoreLists g.row.D). All (λ row. row.auxiliary ≡ []) v.rows) c.self.view_is (bare i.auxiliary none i.tree.lists)
