use Rattle.std.proofs.Common.{List, ℤ, ◌++◌, map, codes, ap, sym}
use Rattle.std.specs.Fmt.{signed_decimal}
use Rattle.std.specs.List.{flat_map, join_by}
use Rattle.rt_sql_statement.specs.declared.value.Value.TheVariants.{Int}
use Rattle.rt_bytes.proofs.Writing.{Writes-both, Writes-first}
use Rattle.rt_shell_lines.specs.Lines.{value_text}
use Rattle.rt_shell_lines.proofs.reply.write_listed.Goals as goal

pub returns : goal.returns
returns g c =
    let more = c.args.row.now.auxiliary.now in
    let behind = flat_map (λ value. codes "|" ++ value_text value) (map Int c.in-Some.rest.now ++ more) in
    Writes-both _ _ _ _ _ _ _ (signed_decimal c.in-Some.first.now) behind _
    (ap (λ (ns : List ℤ). join_by value_text (codes "|") (map Int ns ++ more)) (sym c.in-Some.ensures.cases.0)) c.in_ok-write_integer.ensures c.write_more_listed.ensures

pub returns-in_err-write_integer : goal.returns-in_err-write_integer
returns-in_err-write_integer g c =
    let more = c.args.row.now.auxiliary.now in
    let behind = flat_map (λ value. codes "|" ++ value_text value) (map Int c.in-Some.rest.now ++ more) in
    Writes-first _ _ _ _ _ (signed_decimal c.in-Some.first.now) behind _
    (ap (λ (ns : List ℤ). join_by value_text (codes "|") (map Int ns ++ more)) (sym c.in-Some.ensures.cases.0)) c.from_residual.ensures.0 c.in_err-write_integer.ensures
