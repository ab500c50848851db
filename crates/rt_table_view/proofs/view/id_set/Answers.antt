use Rattle.std.proofs.Common.{ℤ, cond, true, FitsSigned, w64, to_z-of_z, rules, arith, ap, ◌∙◌}
use Rattle.std.specs.List.{list_any}
use Rattle.std.specs.Ordering.{int_eq}
use Rattle.rt_tree_walk.specs.declared.searching.Row.{Row}
use Rattle.rt_table_view.proofs.Picking.{any_more}
use Rattle.rt_table_view.proofs.view.id_set.Goals as goal

pub loop-row-preserved : goal.loop-row-preserved
loop-row-preserved g c = λ q.
    let fits : FitsSigned w64 c.row-item.result.id = search rules in
    c.in_ok-insert.ensures.updates.0 q
    ∙ ap (λ (x : ℤ). cond (int_eq x q) true (list_any (int_eq q) c.loop-row.set.keys)) (to_z-of_z fits)
    ∙ any_more (λ (r : Row g.row.D). r.id) c.args.rows.now c.loop-row.row-index c.row-item.result q (list_any (int_eq q) c.loop-row.set.keys) (omega arith) c.row-item.is (c.loop-row.invariant q)
