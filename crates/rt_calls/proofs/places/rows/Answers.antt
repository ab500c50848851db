use Rattle.std.proofs.Common.{take, drop, refl, subst}
use Rattle.rt_calls.specs.Places.{CopiesBoxesOf}
use Rattle.rt_calls.proofs.places.rows.Goals as goal

pub returns-clause-told : goal.returns-clause-told
returns-clause-told g c =
    let tree = c.args.tree.now in
    let boxes = subst (λ most. CopiesBoxesOf tree.lists (take most (drop c.args.from tree.ids)) c.args.boxes.now c.copy_boxes.new.boxes) c.copy_ids.auto.ids c.copy_boxes.ensures in
    (λ matched. (c.copy_ids.ensures, boxes), λ unmatched. absurd (unmatched (c.if-not-are_matched.ensures.0 refl)))
