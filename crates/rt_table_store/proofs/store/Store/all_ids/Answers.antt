use Rattle.std.proofs.Common.{◌≡◌, ℤ, List, length, ap, ◌∙◌, subst}
use Rattle.std.specs.Prelude.{is_some}
use Rattle.std.specs.List.{list_any}
use Rattle.std.specs.Ordering.{int_eq}
use Rattle.rt_check.specs.Shadow.{ShadowLists}
use Rattle.rt_tree.specs.Boxes.{HasBoxes}
use Rattle.rt_tree.specs.Lists.{box_of}
use Rattle.rt_table_store.specs.StoreLists.{StoreLists}
use Rattle.rt_table_store.proofs.AllIds.{ids-of-all}
use Rattle.rt_table_store.proofs.store.Store.all_ids.Goals as goal

pub returns : goal.returns
returns g c =
    let tree : c.self.inside.tree.lists ≡ c.args.self.now.tree = ap (λ (v : StoreLists g.row.D). v.tree) c.self.view_is in
    let boxes : HasBoxes c.args.self.now.tree = subst (λ (t : ShadowLists g.row.D). HasBoxes t) tree c.has_boxes.ensures in
    let ids : List ℤ = c.in_ok-ids.ids.items in
    let have : (q : ℤ) → list_any (int_eq q) ids ≡ is_some (box_of c.args.self.now.tree q) = λ q.
    ap (list_any (int_eq q)) c.in_ok-ids.ensures.items ∙ c.ids.ensures.ids q ∙ ap (λ (t : ShadowLists g.row.D). is_some (box_of t q)) tree in
    let long : length ids ≡ length c.args.self.now.tree.rows = ap (λ (zs : List ℤ). length zs) c.in_ok-ids.ensures.items ∙ c.ids.ensures.count ∙ ap (λ (t : ShadowLists g.row.D). length t.rows) tree in
    ids-of-all c.args.self.now.rows c.args.self.now.tree c.facts.ensures.rising c.facts.ensures.stands c.self.inside.auxiliary boxes c.args.condition.now c.requires
    ids c.in_ok-sorted.sorted.items have long c.in_ok-sorted.ensures.permutation c.in_ok-sorted.ensures.sorted
