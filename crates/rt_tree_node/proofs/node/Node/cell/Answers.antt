use Rattle.std.proofs.Common.{◌<◌, get_or, length, arith, ap, ◌∙◌, rules}
use Rattle.rt_tree_node.proofs.Paired.{length-paired, paired-read}
use Rattle.rt_tree_node.proofs.node.Node.cell.Goals as goal

pub cell_in-requires : goal.cell_in-requires
cell_in-requires g c =
    let long = length-paired g.row.D c.self.inside.numbers.items c.self.inside.boxes.items c.self.invariant.long in
    let few = c.self.invariant.few in
    let number : c.args.at < length c.as_slice.result.now = omega (arith, ap (λ n. length n.cells) c.self.view_is, long, ap length c.as_slice.ensures.value) in
    let rect : c.args.at < length c.as_slice-2.result.now = omega (arith, ap (λ n. length n.cells) c.self.view_is, long, c.self.invariant.long, ap length c.as_slice-2.ensures.value) in
    search rules

pub returns : goal.returns
returns g c =
    paired-read c.self.inside.numbers.items c.self.inside.boxes.items c.args.at c.cell_in.result.number c.cell_in.result.rect c.self.invariant.long
    (c.cell_in.ensures.number ∙ ap (λ ns. get_or ns c.args.at c.cell_in.result.number) c.as_slice.ensures.value)
    (c.cell_in.ensures.rect ∙ ap (λ bs. get_or bs c.args.at c.cell_in.result.rect) c.as_slice-2.ensures.value)
    ∙ ap (λ n. get_or n.cells c.args.at c.cell_in.result) c.self.view_is
