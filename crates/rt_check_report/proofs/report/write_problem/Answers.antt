use Rattle.std.proofs.Common.{◌≡◌, ◌∙◌, ap, rules}
use Rattle.std.specs.Fmt.{decimal, signed_decimal}
use Rattle.std.proofs.lemmas.Int.{to_z-of_z}
use mir.Syntax.{w64}
use mir.Val.{SFits}
use Rattle.rt_check.specs.Conditions.{code_of}
use Rattle.rt_check_report.proofs.report.write_problem.Goals as goal

pub returns : goal.returns
returns g c =
    let fits : SFits w64 c.args.problem.now.node = search rules in
    let condition : c.as_bytes.result.now ≡ decimal (code_of c.args.problem.now.condition) = c.as_bytes.ensures.value ∙ c.format.ensures.text ∙ ap decimal c.code.ensures in
    let node : c.as_bytes-2.result.now ≡ signed_decimal c.args.problem.now.node = c.as_bytes-2.ensures.value ∙ simp to_z-of_z at c.format-2.ensures.text in
    let position : c.as_bytes-3.result.now ≡ decimal c.args.problem.now.position = c.as_bytes-3.ensures.value ∙ c.format-3.ensures.text in
    rw (condition, node, position) at c.write_parts.ensures
