use Rattle.std.proofs.Common.{set, length, arith, ap, ◌∙◌}
use Rattle.rt_tree_node.specs.NodeInside.{paired}
use Rattle.rt_tree_node.proofs.Paired.{length-paired, paired-set, node-changed}
use Rattle.rt_tree_node.proofs.node.Node.set.Goals as goal

pub set_number-requires : goal.set_number-requires
set_number-requires g c =
    omega (arith, ap (λ n. length n.cells) c.self.view_is, length-paired g.row.D c.self.inside.numbers.items c.self.inside.boxes.items c.self.invariant.long)

pub set_rect-requires : goal.set_rect-requires
set_rect-requires g c =
    omega (arith, ap (λ n. length n.cells) c.self.view_is, length-paired g.row.D c.self.inside.numbers.items c.self.inside.boxes.items c.self.invariant.long, c.self.invariant.long)

pub returns : goal.returns
returns g c =
    let numbers = c.self.inside.numbers.items in
    let boxes = c.self.inside.boxes.items in
    node-changed (λ cells. set cells c.args.at c.args.cell.now) c.self.inside.level c.self.inside.parent (paired numbers boxes) (paired c.set_number.new.numbers.items c.set_rect.new.boxes.items) _
    c.self.view_is
    (ap (λ ns. paired ns c.set_rect.new.boxes.items) c.set_number.ensures ∙ ap (paired (set numbers c.args.at c.args.cell.now.number)) c.set_rect.ensures
    ∙ paired-set numbers boxes c.args.at c.args.cell.now.number c.args.cell.now.rect c.self.invariant.long)
