use Rattle.std.proofs.Common.{codes}
use Rattle.std.specs.List.{join_by}
use Rattle.rt_bytes.proofs.Writing.{Writes-after}
use Rattle.rt_table_row.specs.Entries.{listed_values}
use Rattle.rt_shell_lines.specs.Lines.{value_text}
use Rattle.rt_shell_lines.proofs.reply.write_long_row.Goals as goal

pub returns : goal.returns
returns g c =
    Writes-after _ _ _ _ _ _ _ (join_by value_text (codes "|") (listed_values c.args.row.now)) (codes "\n") c.in_ok-write_listed.ensures c.write_line_end.ensures
