use Rattle.std.proofs.Common.{ℕ, List, ◌++◌, ap, append-nil, arith, ◌∙◌}
use Rattle.std.specs.List.{flat_map}
use Rattle.std.proofs.lemmas.List.{drop_all}
use Rattle.rt_reply.specs.Rows.{box_values}
use Rattle.rt_shell_lines.specs.Lines.{row_line}
use Rattle.rt_shell_lines.proofs.lines.Lines.set_boxes.Goals as goal

pub returns : goal.returns
returns g c =
    let lines = flat_map (λ row. row_line (box_values row)) c.args.rows.now in
    c.put_boxes-self-inside.ensures.put
    ∙ ap (λ (rest : List ℕ). lines ++ rest) (drop_all 2048 c.self.inside.bytes (omega (arith, c.self.invariant.1)))
    ∙ append-nil lines
