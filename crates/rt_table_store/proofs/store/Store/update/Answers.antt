use Rattle.std.proofs.Common.{◌≡◌, ◌≢◌, ◌≤◌, ℤ, true, [], Some, IsSome, arith, rules, refl, sym, ap, ◌∙◌, subst}
use Rattle.std.specs.Option.{unwrap_or}
use Rattle.std.specs.Ordering.{int_eq}
use Rattle.indexmap.specs.IndexMap.{get}
use Rattle.rt_tree.specs.Lists.{box_of}
use Rattle.rt_table_row.specs.Rows.{has_id, with_row, without_id}
use Rattle.rt_table_row.specs.Edits.{Becomes}
use Rattle.rt_table_row.specs.Entries.{row_of}
use Rattle.rt_table_store.specs.StoreLists.{StoreLists}
use Rattle.rt_table_store.specs.StoreInside.{rows_in}
use Rattle.rt_table_store.specs.Trees.{TakesStep}
use Rattle.rt_table_store.proofs.Moved.{a-box, rows-replaced}
use Rattle.rt_table_store.proofs.Kept.{auxiliary-kept, there-replaced}
use Rattle.rt_table_store.proofs.Replaced.{box-here, boxes-kept, as-many, takes-step}
use Rattle.rt_table_store.proofs.Ranking.{ranks-same}
use Rattle.rt_table_store.proofs.store.Store.update.Goals as goal

pub replace-requires : goal.replace-requires
replace-requires g c =
    let i = c.self.inside in
    let d : g.row.D ≤ 3 = c.self.invariant.few in
    let there : IsSome (box_of i.tree.lists c.args.id.now) =
    a-box i.tree.lists c.is_in_shape.ensures i.auxiliary c.args.id.now (subst (λ (v : StoreLists g.row.D). has_id v.rows c.args.id.now ≡ true) (sym c.self.view_is) c.requires.there) in
    let room : 1 ≤ i.tree.spare = subst (λ (v : StoreLists g.row.D). 1 ≤ v.room) (sym c.self.view_is) c.requires.room in
    search rules

pub invariant_of-self : goal.invariant_of-self
invariant_of-self g c =
    let i = c.self.inside in
    let k = c.self.invariant in
    let id = c.args.id.now in
    let row = row_of c.args.row in
    let old = i.tree.lists in
    let new = c.replace.new.self.lists in
    let r = c.replace.ensures in
    let boxes = boxes-kept old new id row r.same r.other in
    let was : IsSome (box_of old id) = a-box old c.is_in_shape.ensures i.auxiliary id (subst (λ (v : StoreLists g.row.D). has_id v.rows id ≡ true) (sym c.self.view_is) c.requires.there) in
    let here : IsSome (box_of new id) = subst IsSome (sym (box-here old new id row r.same r.other)) refl in
    record {
      some = k.some;
      few = k.few;
      most = omega (arith, k.most, as-many old new id row r.same r.other c.is_in_shape.ensures i.auxiliary c.is_in_shape-2.ensures);
      auxiliary = auxiliary-kept old new id boxes i.auxiliary c.set_auxiliary.new.auxiliary c.set_auxiliary.ensures.others (λ some. here) k.auxiliary;
      ranks = ranks-same _ i.largest _ (there-replaced old new id boxes was here) k.ranks;
    }

pub returns-clause-rows : goal.returns-clause-rows
returns-clause-rows g c =
    let i = c.self.inside in
    let id = c.args.id.now in
    let row = row_of c.args.row in
    let same = c.requires.same in
    let old = i.tree.lists in
    let new = c.replace.new.self.lists in
    let r = c.replace.ensures in
    let boxes : (other : ℤ) → other ≢ row.id → box_of new other ≡ box_of old other =
    subst (λ (z : ℤ). (other : ℤ) → other ≢ z → box_of new other ≡ box_of old other) (sym same) (boxes-kept old new id row r.same r.other) in
    let here : box_of new row.id ≡ Some row.box = ap (box_of new) same ∙ box-here old new id row r.same r.other in
    let others = subst (λ (z : ℤ). (other : ℤ) → other ≢ z → get int_eq c.set_auxiliary.new.auxiliary other ≡ get int_eq i.auxiliary other) (sym same) c.set_auxiliary.ensures.others in
    let values : unwrap_or (get int_eq c.set_auxiliary.new.auxiliary row.id) [] ≡ row.auxiliary = ap (λ (z : ℤ). unwrap_or (get int_eq c.set_auxiliary.new.auxiliary z) []) same ∙ c.set_auxiliary.ensures.here in
    rows-replaced old new c.is_in_shape.ensures c.is_in_shape-2.ensures i.auxiliary c.set_auxiliary.new.auxiliary row (boxes, others) here values
    ∙ ap (λ (z : ℤ). with_row (without_id (rows_in old i.auxiliary) z) row) same
    ∙ ap (λ (v : StoreLists g.row.D). with_row (without_id v.rows id) row) c.self.view_is

pub returns-clause-tree : goal.returns-clause-tree
returns-clause-tree g c =
    let i = c.self.inside in
    let row = row_of c.args.row in
    let new = c.replace.new.self.lists in
    let r = c.replace.ensures in
    subst (λ (v : StoreLists g.row.D). TakesStep v.rows (Becomes c.args.id.now row) v.tree new) c.self.view_is
    (takes-step i.tree.lists new c.args.id.now row r.same r.other c.is_in_shape.ensures i.auxiliary c.requires.same)
