use Rattle.std.proofs.Common.{length, arith, ap, sym, ◌∙◌, map}
use Rattle.rt_tree_node.proofs.Paired.{length-paired, rects-paired}
use Rattle.rt_tree_node.proofs.node.Node.boxes.Goals as goal

pub returns-clause-value : goal.returns-clause-value
returns-clause-value g c =
    c.as_slice.ensures.value ∙ sym (rects-paired g.row.D c.self.inside.numbers.items c.self.inside.boxes.items c.self.invariant.long)
    ∙ ap (λ n. map (λ x. x.rect) n.cells) c.self.view_is

pub returns-clause-few : goal.returns-clause-few
returns-clause-few g c =
    omega (
      arith,
      ap length c.as_slice.ensures.value,
      c.as_slice.ensures.fits,
      ap (λ n. length n.cells) c.self.view_is,
      length-paired g.row.D c.self.inside.numbers.items c.self.inside.boxes.items c.self.invariant.long,
      c.self.invariant.long,
    )
