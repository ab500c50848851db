use Rattle.std.proofs.Common.{ℕ, List, ◌++◌, codes, ap, ◌∙◌}
use Rattle.std.specs.List.{join_by}
use Rattle.rt_shell_lines.specs.Lines.{column_text, row_at}
use Rattle.rt_shell_lines.proofs.Columns.{columns-put}
use Rattle.rt_shell_lines.proofs.lines.Lines.put_columns.Goals as goal

pub returns : goal.returns
returns c =
    let row = row_at c.args.rows.now c.args.at in
    c.in_ok-put_each_column.ensures
    ∙ ap (λ (rest : List ℕ). join_by (column_text row) (codes "|") c.args.places.now ++ rest) c.in_ok-put_byte.ensures
    ∙ columns-put row c.args.places.now c.args.self.now
