use Rattle.std.proofs.Common.{ℕ, List, ◌++◌, ap, append-nil, arith, ◌∙◌}
use Rattle.std.proofs.lemmas.List.{drop_all}
use Rattle.rt_shell_lines.specs.Lines.{lines_of_ids}
use Rattle.rt_shell_lines.proofs.lines.Lines.set_ids.Goals as goal

pub returns : goal.returns
returns c =
    let lines = lines_of_ids c.args.ids.now in
    c.put_ids-self-inside.ensures.put
    ∙ ap (λ (rest : List ℕ). lines ++ rest) (drop_all 2048 c.self.inside.bytes (omega (arith, c.self.invariant.1)))
    ∙ append-nil lines
