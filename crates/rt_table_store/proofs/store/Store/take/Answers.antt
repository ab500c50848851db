use Rattle.std.proofs.Common.{◌≡◌, List, Some, IsSome, arith, rules, sym, ap, ◌∙◌, w64, FitsSigned}
use Rattle.std.specs.Prelude.{is_some}
use Rattle.std.specs.Option.{option_map}
use Rattle.std.specs.Ordering.{int_eq}
use Rattle.std.proofs.lemmas.Int.{to_z-of_z}
use Rattle.indexmap.specs.IndexMap.{get}
use Rattle.rt_sql_statement.specs.declared.value.Value.{Value}
use Rattle.rt_tree.specs.Lists.{box_of}
use Rattle.rt_table_row.specs.Rows.{TableRow, row_at, without_id}
use Rattle.rt_table_store.specs.StoreLists.{StoreLists}
use Rattle.rt_table_store.proofs.Joined.{boxed, row-at}
use Rattle.rt_table_store.proofs.Moved.{rows-removed}
use Rattle.rt_table_store.proofs.Kept.{not-both, auxiliary-kept, there-removed, one-fewer}
use Rattle.rt_table_store.proofs.store.Store.take.Goals as goal

pub returns-in_err-rect-clause-row : goal.returns-in_err-rect-clause-row
returns-in_err-rect-clause-row g c =
    let i = c.self.inside in
    let id = c.args.id.now in
    rw c.from_residual.ensures (
    sym (ap (option_map (boxed i.tree.lists c.is_in_shape.ensures i.auxiliary id)) c.in_err-rect.ensures.none)
    ∙ sym (row-at i.tree.lists c.is_in_shape.ensures i.auxiliary id)
    ∙ ap (λ (v : StoreLists g.row.D). row_at v.rows id) c.self.view_is
    )

pub invariant_of-self : goal.invariant_of-self
invariant_of-self g c =
    let same : c.take.new.self ≡ c.self.inside.tree = c.in_err-rect.ensures.same in
    rw same c.self.invariant

pub invariant_of-self-2 : goal.invariant_of-self-2
invariant_of-self-2 g c =
    let i = c.self.inside in
    let k = c.self.invariant in
    let id = c.args.id.now in
    let old = i.tree.lists in
    let new = c.take.new.self.lists in
    let loses = c.in_ok-rect.ensures.rows in
    record {
      some = k.some;
      few = k.few;
      most = omega (arith, k.most, one-fewer old new c.is_in_shape.ensures c.is_in_shape-2.ensures i.auxiliary id c.in_ok-rect.rect loses);
      auxiliary = auxiliary-kept old new id loses.others i.auxiliary c.take_auxiliary-auxiliary.new.auxiliary c.take_auxiliary-auxiliary.ensures.others (λ some. not-both (IsSome (box_of new id)) (get int_eq c.take_auxiliary-auxiliary.new.auxiliary id) c.take_auxiliary-auxiliary.ensures.gone some) k.auxiliary;
      ranks = c.remove.ensures _ k.ranks (there-removed old new id loses.others loses.gone)
          (λ other ne t. ap is_some (loses.others other ne) ∙ t);
    }

pub returns-clause-row : goal.returns-clause-row
returns-clause-row g c =
    let i = c.self.inside in
    let id = c.args.id.now in
    let fits : FitsSigned w64 id = search rules in
    let with_values : List Value → TableRow = λ values. record { id = id; box = c.in_ok-rect.rect; auxiliary = values } in
    rw (to_z-of_z w64 id fits) (
    ap (λ values. Some (with_values values)) c.take_auxiliary-auxiliary.ensures.value
    ∙ sym (ap (option_map (boxed i.tree.lists c.is_in_shape.ensures i.auxiliary id)) c.in_ok-rect.ensures.rows.was)
    ∙ sym (row-at i.tree.lists c.is_in_shape.ensures i.auxiliary id)
    ∙ ap (λ (v : StoreLists g.row.D). row_at v.rows id) c.self.view_is
    )

pub returns-clause-rows : goal.returns-clause-rows
returns-clause-rows g c =
    let i = c.self.inside in
    let loses = c.in_ok-rect.ensures.rows in
    rows-removed i.tree.lists c.take.new.self.lists c.is_in_shape.ensures c.is_in_shape-2.ensures i.auxiliary c.take_auxiliary-auxiliary.new.auxiliary c.args.id.now
    (loses.others, c.take_auxiliary-auxiliary.ensures.others) loses.gone
    ∙ ap (λ (v : StoreLists g.row.D). without_id v.rows c.args.id.now) c.self.view_is
