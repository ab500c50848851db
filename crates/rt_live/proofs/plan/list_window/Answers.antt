use Rattle.std.proofs.Common.{◌∙◌, ◌++◌, ℤ, Option, List, rules, FitsSigned, w64, to_z-of_z, length, vec_capacity, ap, ap₂, sym, le_trans, le_of_eq}
use Rattle.rt_tree_walk.specs.declared.searching.Row.{Row}
use Rattle.rt_live.specs.Changes.{touches, told_of_window, listed}
use Rattle.rt_live.specs.declared.change.Change.{Change}
use Rattle.rt_live.specs.declared.change.Kind.{Kind}
use Rattle.rt_live.proofs.Stepwise.{given-more, room-for-one, room-for-rest}
use Rattle.rt_live.proofs.plan.list_window.Goals as goal

-- Automation finds these too, but by a search over all that is known in the loop.

pub push_told-requires : goal.push_told-requires
push_told-requires g c =
    let list = c.loop-row.list in
    record { room = room-for-one (length list.items) (length c.args.rows.now) (vec_capacity list) c.loop-row.row-index c.loop-row.invariant.room c.loop-row-test.true }

pub loop-row-preserved : goal.loop-row-preserved
loop-row-preserved g c =
    let was = c.args.was.now in
    let is = c.args.is.now in
    let row = c.row-item.result in
    let list = c.loop-row.list in
    let more = c.push_told.new.changes in
    let before = c.loop-row.invariant in
    let gives : Row g.row.D → List Change = λ r. listed c.args.window.now r.id (told_of_window (touches was r.rect) (touches is r.rect)) in
    let told = c.told_of_window.ensures ∙ ap₂ told_of_window c.is_touched-was_in.ensures c.is_touched-is_in.ensures in
    let fits : FitsSigned w64 c.args.window.now = search rules in
    let fits_other : FitsSigned w64 row.id = search rules in
    let same = ap₂ (λ (x y : ℤ). list.items ++ listed x y c.told_of_window.result) (to_z-of_z fits) (to_z-of_z fits_other) in
    record {
      told = given-more c.args.rows.now c.loop-row.row-index row c.loop-row-test.true c.row-item.is gives c.args.changes.now.items list.items more.items
          before.told (c.push_told.ensures.told ∙ same ∙ ap (λ (kind : Option Kind). list.items ++ listed c.args.window.now row.id kind) told);
      room = room-for-rest (length list.items) (length more.items) (length c.args.rows.now) (vec_capacity list) (vec_capacity more) c.loop-row.row-index
          before.room c.push_told.ensures.few c.push_told.ensures.capacity;
      capacity = le_trans before.capacity (le_of_eq (sym c.push_told.ensures.capacity));
    }
