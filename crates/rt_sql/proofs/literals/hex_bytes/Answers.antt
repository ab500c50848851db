use Rattle.std.proofs.Common.{◌≡◌, ◌<◌, [], length, drop, length-drop, ap, sym, ◌∙◌, ◌++◌, append-nil, arith}
use Rattle.rt_sql.specs.Token.{hex_bytes}
use Rattle.rt_sql.proofs.Doubling.{short_hex}
use Rattle.rt_sql.proofs.literals.hex_bytes.Goals as goal

pub returns : goal.returns
returns c =
    let digits = c.as_bytes-digits.result.now in
    let short : length (drop c.loop-at.at digits) < 2 = omega (arith, length-drop c.loop-at.at digits) in
    let none : hex_bytes (drop c.loop-at.at digits) ≡ [] = short_hex (drop c.loop-at.at digits) short in
    sym (append-nil c.loop-at.bytes.items) ∙ ap (λ x. c.loop-at.bytes.items ++ x) (sym none) ∙ c.loop-at.invariant.1 ∙ ap hex_bytes c.as_bytes-digits.ensures.value
