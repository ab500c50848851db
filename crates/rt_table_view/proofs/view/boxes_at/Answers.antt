use Rattle.std.proofs.Common.{arith, refl, rules, FitsSigned, w64, to_z-of_z, ◌∙◌}
use Rattle.rt_table_view.proofs.Picking.{none_looked, some_looked}
use Rattle.rt_table_view.proofs.view.boxes_at.Goals as goal

pub loop-id-preserved-in_default : goal.loop-id-preserved-in_default
loop-id-preserved-in_default g c = none_looked c.args.store.now.rows c.args.ids.now c.loop-id.id-index _ (omega arith) c.in_default.ensures c.loop-id.invariant

pub loop-id-preserved : goal.loop-id-preserved
loop-id-preserved g c =
    let fits : FitsSigned w64 c.in-Some.row.id = search rules in
    c.in_ok-push.ensures.items
    ∙ rw (to_z-of_z fits) (some_looked c.args.store.now.rows c.args.ids.now c.loop-id.id-index _ _ _ (omega arith) c.in-Some.ensures refl c.loop-id.invariant)
