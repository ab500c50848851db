use Rattle.std.proofs.Common.{◌<◌, pos, get_or, length, arith, ap, ◌∙◌}
use Rattle.std.proofs.lemmas.List.{get_or-map, length-map}
use Rattle.rt_tree_node.proofs.node.Node.position.Goals as goal

pub returns-clause-first : goal.returns-clause-first
returns-clause-first g c k d below same =
    let within : k < length c.args.self.now.cells = omega (arith, c.position_in.ensures.within, ap length (c.counted-numbers.ensures ∙ c.numbers.ensures.value), length-map c.args.self.now.cells (λ q. q.number)) in
    c.position_in.ensures.first k below
    (ap (λ ns. get_or ns k (pos 0)) (c.counted-numbers.ensures ∙ c.numbers.ensures.value) ∙ get_or-map (λ q. q.number) c.args.self.now.cells k d (pos 0) within ∙ same)
