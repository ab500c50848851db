use Rattle.std.proofs.Common.{◌≡◌, ◌≢◌, ◌≤◌, ◌<◌, ◌^◌, ℤ, false, ◌||◌, [], length, None, IsSome, arith, rules, refl, sym, ap, ◌∙◌, subst, w64, FitsSigned}
use Rattle.std.specs.Option.{unwrap_or}
use Rattle.std.specs.Prelude.{is_some}
use Rattle.std.specs.Ordering.{int_eq}
use Rattle.std.proofs.lemmas.Int.{to_z-of_z}
use Rattle.std.proofs.lemmas.List.{length-map}
use Rattle.indexmap.specs.IndexMap.{get}
use Rattle.rt_tree.specs.Lists.{box_of, GainsRow}
use Rattle.rt_check.specs.declared.node.RowEntry.{RowEntry}
use Rattle.rt_table_row.specs.Rows.{has_id, with_row}
use Rattle.rt_table_row.specs.Entries.{row_of}
use Rattle.rt_table_store.specs.GreatestIds.{Ranks}
use Rattle.rt_table_store.specs.StoreLists.{StoreLists}
use Rattle.rt_table_store.specs.StoreInside.{joined}
use Rattle.rt_table_store.proofs.Moved.{no-box, rows-inserted}
use Rattle.rt_table_store.proofs.Kept.{auxiliary-kept, there-inserted, longer}
use Rattle.rt_table_store.proofs.Ranking.{ranks-same}
use Rattle.rt_table_store.proofs.store.Store.insert.Goals as goal

pub insert-requires : goal.insert-requires
insert-requires g c =
    let i = c.self.inside in
    let d : g.row.D ≤ 3 = c.self.invariant.few in
    let fits : FitsSigned w64 c.args.row.id = search rules in
    let absent : box_of i.tree.lists c.args.row.id ≡ None =
    no-box i.tree.lists c.is_in_shape.ensures i.auxiliary c.args.row.id (subst (λ (v : StoreLists g.row.D). has_id v.rows c.args.row.id ≡ false) (sym c.self.view_is) c.requires.absent) in
    let long = ap (λ (v : StoreLists g.row.D). length v.rows) c.self.view_is in
    let few : length i.tree.lists.rows < 2 ^ 31 = omega (arith, long, c.requires.few, length-map i.tree.lists.rows (λ (e : RowEntry). joined i.tree.lists i.auxiliary e.id)) in
    let some : 1 ≤ i.tree.spare = subst (λ (v : StoreLists g.row.D). 1 ≤ v.room) (sym c.self.view_is) c.requires.room in
    rw (to_z-of_z w64 c.args.row.id fits) (search rules)

pub invariant_of-self : goal.invariant_of-self
invariant_of-self g c =
    let i = c.self.inside in
    let k = c.self.invariant in
    let id = c.args.row.id in
    let old = i.tree.lists in
    let new = c.insert.new.self.lists in
    let fits : FitsSigned w64 id = search rules in
    let same = to_z-of_z w64 id fits in
    let gains : GainsRow old new id c.args.row.rect = subst (λ (z : ℤ). GainsRow old new z c.args.row.rect) same c.insert.ensures.rows in
    let here : IsSome (box_of new id) = subst IsSome (sym gains.here) refl in
    let values = subst (λ (z : ℤ). (other : ℤ) → other ≢ z → get int_eq c.set_auxiliary.new.auxiliary other ≡ get int_eq i.auxiliary other) same c.set_auxiliary.ensures.others in
    let came : Ranks (λ other. int_eq other id || is_some (box_of old other)) c.push.new.self =
    subst (λ (z : ℤ). Ranks (λ other. int_eq other z || is_some (box_of old other)) c.push.new.self) same (c.push.ensures _ k.ranks) in
    let long = ap (λ (v : StoreLists g.row.D). length v.rows) c.self.view_is in
    record {
      some = k.some;
      few = k.few;
      most = omega (arith, longer old new c.is_in_shape.ensures c.is_in_shape-2.ensures i.auxiliary id c.args.row.rect gains, long, c.requires.few, length-map old.rows (λ (e : RowEntry). joined old i.auxiliary e.id));
      auxiliary = auxiliary-kept old new id gains.others i.auxiliary c.set_auxiliary.new.auxiliary values (λ some. here) k.auxiliary;
      ranks = ranks-same _ c.push.new.self _ (there-inserted old new id gains.others here) came;
    }

pub returns-clause-rows : goal.returns-clause-rows
returns-clause-rows g c =
    let i = c.self.inside in
    let id = c.args.row.id in
    let old = i.tree.lists in
    let new = c.insert.new.self.lists in
    let fits : FitsSigned w64 id = search rules in
    let same = to_z-of_z w64 id fits in
    let gains : GainsRow old new id c.args.row.rect = subst (λ (z : ℤ). GainsRow old new z c.args.row.rect) same c.insert.ensures.rows in
    let values = subst (λ (z : ℤ). (other : ℤ) → other ≢ z → get int_eq c.set_auxiliary.new.auxiliary other ≡ get int_eq i.auxiliary other) same c.set_auxiliary.ensures.others in
    let more = subst (λ (z : ℤ). unwrap_or (get int_eq c.set_auxiliary.new.auxiliary z) [] ≡ c.args.row.auxiliary) same c.set_auxiliary.ensures.here in
    rows-inserted old new c.is_in_shape.ensures c.is_in_shape-2.ensures i.auxiliary c.set_auxiliary.new.auxiliary (row_of c.args.row) (gains.others, values) gains.here more
    ∙ ap (λ (v : StoreLists g.row.D). with_row v.rows (row_of c.args.row)) c.self.view_is
