use Rattle.std.proofs.Common.{◌++◌, codes, ap, sym}
use Rattle.std.specs.List.{flat_map, join_by}
use Rattle.rt_bytes.proofs.Writing.{Writes-both}
use Rattle.rt_shell_lines.specs.Lines.{value_text}
use Rattle.rt_shell_lines.proofs.reply.write_values.Goals as goal

pub returns : goal.returns
returns g c =
    let first = c.in-Some.first.now in
    let rest = c.in-Some.rest.now in
    Writes-both _ _ _ _ _ _ _ (value_text first) (flat_map (λ value. codes "|" ++ value_text value) rest) _
    (ap (join_by value_text (codes "|")) (sym c.in-Some.ensures.cases.0)) c.in_ok-write_value.ensures c.write_more_values.ensures
