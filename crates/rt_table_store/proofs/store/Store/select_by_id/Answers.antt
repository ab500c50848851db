use Rattle.std.proofs.Common.{◌≡◌, ℕ, length, sym, ap, ◌∙◌, subst}
use Rattle.rt_check.specs.Shadow.{ShadowLists}
use Rattle.rt_tree.specs.Boxes.{HasBoxes}
use Rattle.rt_table_store.specs.StoreLists.{StoreLists}
use Rattle.rt_table_store.specs.Visiting.{Visits}
use Rattle.rt_table_store.proofs.Everywhere.{visits_all}
use Rattle.rt_table_store.proofs.store.Store.select_by_id.Goals as goal

pub returns-clause-visited : goal.returns-clause-visited
returns-clause-visited g c = λ window free.
    let tree : c.self.inside.tree.lists ≡ c.args.self.now.tree = ap (λ (v : StoreLists g.row.D). v.tree) c.self.view_is in
    let boxes : HasBoxes c.args.self.now.tree = subst (λ (t : ShadowLists g.row.D). HasBoxes t) tree c.has_boxes.ensures in
    let count : c.node_count.result ≡ length c.args.self.now.tree.nodes = c.node_count.ensures ∙ ap (λ (t : ShadowLists g.row.D). length t.nodes) tree in
    subst (λ (n : ℕ). Visits c.args.self.now.tree window n) (sym count) (visits_all c.args.self.now.tree c.facts.ensures.stands.shape boxes window free)
