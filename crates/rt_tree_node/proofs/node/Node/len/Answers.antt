use Rattle.std.proofs.Common.{length, arith, ap}
use Rattle.rt_tree_node.proofs.Paired.{length-paired}
use Rattle.rt_tree_node.proofs.node.Node.len.Goals as goal

pub returns-clause-value : goal.returns-clause-value
returns-clause-value g c =
    omega (
      arith,
      c.len.ensures.value,
      ap (λ n. length n.cells) c.self.view_is,
      length-paired g.row.D c.self.inside.numbers.items c.self.inside.boxes.items c.self.invariant.long,
    )
