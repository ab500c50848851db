use Rattle.rt_box.proofs.Telling.{Tells-alike}
use Rattle.rt_box.specs.Rect.{IsBox}
use Rattle.rt_box.specs.Window.{Admits}
use Rattle.rt_tree_subtree.proofs.Holders.{HoldsNew}
use Rattle.rt_tree_subtree.proofs.holder.holders.Goals as goal

pub returns-clause-told : goal.returns-clause-told
returns-clause-told g c =
    Tells-alike (Admits c.around.result) (HoldsNew c.args.new_box.now) (IsBox g.row.D) c.around.ensures c.args.boxes.now c.admitted.result
    c.admitted.ensures.boxes c.admitted.ensures.told
