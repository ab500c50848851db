use Rattle.std.proofs.Common.{rules, FitsSigned, w64, to_z-of_z, ◌≡◌, List, ℤ, ℕ, ◌++◌, map, codes, ap, sym, ◌∙◌}
use Rattle.std.specs.Fmt.{signed_decimal}
use Rattle.std.specs.List.{flat_map, join_by}
use Rattle.rt_sql_statement.specs.declared.value.Value.TheVariants.{Int}
use Rattle.rt_shell_lines.specs.Lines.{value_text}
use Rattle.rt_shell_lines.proofs.Listed.{listed-put}
use Rattle.rt_shell_lines.proofs.lines.Lines.put_listed.Goals as goal

pub returns : goal.returns
returns c =
    let first = c.in-Some.first.now in
    let rest = c.in-Some.rest.now in
    let more = c.args.row.now.auxiliary.now in
    let fits : FitsSigned w64 first = search rules in
    let last : c.put_integer.new.self ≡ signed_decimal first ++ c.put_more_numbers.new.self = rw (to_z-of_z fits) at c.in_ok-put_integer.ensures in
    last
    ∙ ap (λ (text : List ℕ). signed_decimal first ++ text)
    (c.in_ok-put_more_numbers.ensures ∙ ap (λ (text : List ℕ). flat_map (λ number. codes "|" ++ signed_decimal number) rest ++ text) c.in_ok-put_more.ensures)
    ∙ listed-put first rest more c.args.self.now
    ∙ ap (λ (ns : List ℤ). join_by value_text (codes "|") (map Int ns ++ more) ++ c.args.self.now) (sym c.in-Some.ensures.cases.0)
