use Rattle.std.proofs.Common.{ℤ, ◌≤◌, ◌*◌, List, length, take, drop, All, IsSome, arith, rules, sym, ap, subst, ◌∙◌}
use Rattle.std.proofs.Math.Nat.{mul-le-mul_right}
use Rattle.std.proofs.lemmas.List.{length-take}
use Rattle.rt_tree.specs.Lists.{box_of}
use Rattle.rt_calls.specs.Places.{CopiesBoxesOf}
use Rattle.rt_calls.proofs.Rowing.{all_there}
use Rattle.rt_calls.proofs.places.copy_boxes.Goals as goal

pub write_boxes_of-requires : goal.write_boxes_of-requires
write_boxes_of-requires g c =
    let some = c.items_from-some.result.now in
    let few : length some ≤ c.args.most = omega (arith, ap length c.items_from-some.ensures, length-take c.args.most (drop c.args.from c.ids.result.now)) in
    let there : All (λ id. IsSome (box_of c.args.tree.now.lists id)) some =
    subst (λ (ids : List ℤ). All (λ id. IsSome (box_of c.args.tree.now.lists id)) ids) (sym c.items_from-some.ensures)
    (all_there c.args.tree.now.lists c.ids.result.now c.args.from c.args.most c.ids.ensures.ids) in
    let room : length some * (2 * g.row.D) ≤ length c.args.boxes.now = omega (arith, mul-le-mul_right (2 * g.row.D) few, c.requires.room) in
    search rules

pub returns : goal.returns
returns g c =
    subst (λ (ids : List ℤ). CopiesBoxesOf {D = g.row.D} c.args.tree.now.lists ids c.args.boxes.now c.write_boxes_of.new.boxes)
    (c.items_from-some.ensures ∙ ap (λ (order : List ℤ). take c.args.most (drop c.args.from order)) c.ids.ensures.order) c.write_boxes_of.ensures
