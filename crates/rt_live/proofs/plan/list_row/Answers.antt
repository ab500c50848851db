use Rattle.std.proofs.Common.{◌∙◌, ◌++◌, ℤ, Option, List, rules, FitsSigned, w64, to_z-of_z, length, vec_capacity, ap, ap₂, sym, le_trans, le_of_eq}
use Rattle.rt_tree_walk.specs.declared.searching.Row.{Row}
use Rattle.rt_live.specs.Changes.{touches, told_of_row, listed}
use Rattle.rt_live.specs.declared.change.Change.{Change}
use Rattle.rt_live.specs.declared.change.Kind.{Kind}
use Rattle.rt_live.proofs.Stepwise.{given-more, room-for-one, room-for-rest}
use Rattle.rt_live.proofs.plan.list_row.Goals as goal

-- Automation finds these too, but by a search over all that is known in the loop.

pub push_told-requires : goal.push_told-requires
push_told-requires g c =
    let list = c.loop-window.list in
    record { room = room-for-one (length list.items) (length c.args.windows.now) (vec_capacity list) c.loop-window.window-index c.loop-window.invariant.room c.loop-window-test.true }

pub loop-window-preserved : goal.loop-window-preserved
loop-window-preserved g c =
    let was = c.args.was.now in
    let is = c.args.is.now in
    let window = c.window-item.result in
    let list = c.loop-window.list in
    let more = c.push_told.new.changes in
    let before = c.loop-window.invariant in
    let gives : Row g.row.D → List Change = λ r. listed r.id c.args.id.now (told_of_row (touches was r.rect) (touches is r.rect)) in
    let told = c.told_of_row.ensures ∙ ap₂ told_of_row c.is_touched-was_in.ensures c.is_touched-is_in.ensures in
    let fits : FitsSigned w64 window.id = search rules in
    let fits_other : FitsSigned w64 c.args.id.now = search rules in
    let same = ap₂ (λ (x y : ℤ). list.items ++ listed x y c.told_of_row.result) (to_z-of_z fits) (to_z-of_z fits_other) in
    record {
      told = given-more c.args.windows.now c.loop-window.window-index window c.loop-window-test.true c.window-item.is gives c.args.changes.now.items list.items more.items
          before.told (c.push_told.ensures.told ∙ same ∙ ap (λ (kind : Option Kind). list.items ++ listed window.id c.args.id.now kind) told);
      room = room-for-rest (length list.items) (length more.items) (length c.args.windows.now) (vec_capacity list) (vec_capacity more) c.loop-window.window-index
          before.room c.push_told.ensures.few c.push_told.ensures.capacity;
      capacity = le_trans before.capacity (le_of_eq (sym c.push_told.ensures.capacity));
    }
