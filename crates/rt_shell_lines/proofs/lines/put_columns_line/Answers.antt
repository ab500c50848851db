use Rattle.std.proofs.Common.{◌≡◌, ℕ, ◌+◌, ◌-◌, ◌<◌, ◌≤◌, List, ◌∷◌, ◌++◌, codes, drop, length, set, ap, sym, append_assoc, ◌∙◌, arith, rules}
use Rattle.std.specs.List.{flat_map, join_by}
use Rattle.std.proofs.lemmas.List.{drop-set}
use Rattle.rt_reply.specs.Rows.{box_values}
use Rattle.rt_shell_lines.specs.Lines.{column_text, columns_line}
use Rattle.rt_shell_lines.proofs.Columns.{columns-put}
use Rattle.rt_shell_lines.proofs.lines.put_columns_line.Goals as goal

pub returns-clause-put : goal.returns-clause-put
returns-clause-put g c =
    let row = box_values c.args.row.now in
    let bytes = c.args.bytes.now in
    let end = c.args.end in
    let first = c.in-Some.first.now in
    let rest = c.in-Some.rest.now in
    let places = c.args.places.now in
    let split : places ≡ first ∷ rest = search rules in
    let some : 1 ≤ end = omega (arith, c.requires.room) in
    let within : end - 1 < length bytes = omega (arith, c.requires.within, some) in
    let next : end - 1 + 1 ≡ end = omega (arith, some) in
    let feed : drop (end - 1) (set bytes (end - 1) 10) ≡ codes "\n" ++ drop end bytes =
    drop-set bytes (end - 1) 10 within ∙ ap (λ (n : ℕ). 10 ∷ drop n bytes) next in
    let bars = flat_map (λ place. codes "|" ++ column_text row place) rest in
    let behind : drop c.in_ok-start.start c.put_columns_after_bars.new.bytes ≡ bars ++ (codes "\n" ++ drop end bytes) =
    c.in_ok-start.ensures.put ∙ ap (λ (l : List ℕ). bars ++ l) feed in
    let line : column_text row first ++ drop c.in_ok-start.start c.put_columns_after_bars.new.bytes ≡ columns_line places row ++ drop end bytes =
    ap (λ (l : List ℕ). column_text row first ++ l) behind
    ∙ sym (append_assoc (column_text row first) bars (codes "\n" ++ drop end bytes))
    ∙ ap (λ (ps : List ℕ). join_by (column_text row) (codes "|") ps ++ (codes "\n" ++ drop end bytes)) (sym split)
    ∙ columns-put row places (drop end bytes) in
    rw (← line) c.put_column.ensures.put
