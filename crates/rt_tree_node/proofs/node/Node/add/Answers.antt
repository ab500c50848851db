use Rattle.std.proofs.Common.{◌<◌, [], ◌∷◌, ◌++◌, length, arith, ap, ◌∙◌, rules}
use Rattle.rt_tree_node.specs.NodeInside.{paired}
use Rattle.rt_tree_node.proofs.Paired.{length-paired, paired-push, node-changed}
use Rattle.rt_tree_node.proofs.node.Node.add.Goals as goal

pub push_number-requires : goal.push_number-requires
push_number-requires g c =
    omega (arith, ap (λ n. length n.cells) c.self.view_is, length-paired g.row.D c.self.inside.numbers.items c.self.inside.boxes.items c.self.invariant.long)

pub push-requires : goal.push-requires
push-requires g c =
    let few = c.self.invariant.few in
    let room : length c.self.inside.boxes.items < 52 =
    omega (arith, ap (λ n. length n.cells) c.self.view_is, length-paired g.row.D c.self.inside.numbers.items c.self.inside.boxes.items c.self.invariant.long, c.self.invariant.long) in
    search rules

pub returns : goal.returns
returns g c =
    let numbers = c.self.inside.numbers.items in
    let boxes = c.self.inside.boxes.items in
    node-changed (λ cells. cells ++ c.args.cell.now ∷ []) c.self.inside.level c.self.inside.parent (paired numbers boxes) (paired c.push_number.new.numbers.items c.push.new.self.items) _
    c.self.view_is
    (ap (λ ns. paired ns c.push.new.self.items) c.push_number.ensures ∙ ap (paired (numbers ++ c.args.cell.now.number ∷ [])) c.push.ensures.items
    ∙ paired-push numbers boxes c.args.cell.now.number c.args.cell.now.rect c.self.invariant.long)
