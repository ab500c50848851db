use Rattle.std.proofs.Common.{◌<◌, length, arith, ap, ◌∙◌, rules}
use Rattle.std.specs.List.{remove}
use Rattle.rt_tree_node.specs.NodeInside.{paired}
use Rattle.rt_tree_node.proofs.Paired.{length-paired, paired-remove, node-changed}
use Rattle.rt_tree_node.proofs.node.Node.remove.Goals as goal

pub remove-requires : goal.remove-requires
remove-requires g c =
    let room : c.args.at < length c.self.inside.numbers.items =
    omega (arith, ap (λ n. length n.cells) c.self.view_is, length-paired g.row.D c.self.inside.numbers.items c.self.inside.boxes.items c.self.invariant.long) in
    search rules

pub returns : goal.returns
returns g c =
    let numbers = c.self.inside.numbers.items in
    let boxes = c.self.inside.boxes.items in
    node-changed (λ cells. remove cells c.args.at) c.self.inside.level c.self.inside.parent (paired numbers boxes) (paired c.remove.new.self.items c.remove-2.new.self.items) _
    c.self.view_is
    (ap (λ ns. paired ns c.remove-2.new.self.items) c.remove.ensures.items ∙ ap (paired (remove numbers c.args.at)) c.remove-2.ensures.items
    ∙ paired-remove numbers boxes c.args.at c.self.invariant.long)
