use Rattle.std.proofs.Common.{◌≡◌, ℕ, List, ◌++◌, codes, ap, sym, ◌∙◌, append_assoc}
use Rattle.rt_bytes.proofs.Writing.{Writes-both}
use Rattle.rt_table_row.specs.Entries.{listed_values}
use Rattle.rt_shell_lines.specs.Lines.{row_line}
use Rattle.rt_shell_lines.proofs.reply.write_change.Goals as goal

-- the parts before the row, and the row
line : (came view row a b : List ℕ) → came ≡ a → view ≡ b → (came ++ (view ++ codes " ")) ++ row ≡ a ++ b ++ codes " " ++ row
line came view row a b e f = rw (e, f) (ap (λ l. l ++ row) (sym (append_assoc a b (codes " "))))

pub returns : goal.returns
returns g c =
    let came = c.sign.result.now in
    let view = c.as_bytes.result.now in
    let row = row_line (listed_values c.args.change.now.row) in
    let name : view ≡ c.args.change.now.view.now = c.as_bytes.ensures.value ∙ c.as_str.ensures in
    Writes-both _ _ _ _ _ _ _ (came ++ (view ++ codes " ")) row _ (line came view row _ _ c.sign.ensures name)
    c.in_ok-write_parts.ensures c.write_row.ensures
