use Rattle.std.proofs.Common.{◌≡◌, ℕ, ◌+◌, ◌-◌, ◌<◌, ◌≤◌, List, ◌∷◌, ◌++◌, codes, drop, length, set, FitsSigned, w64, to_z-of_z, ap, ◌∙◌, arith, rules}
use Rattle.std.specs.Fmt.{signed_decimal}
use Rattle.std.proofs.lemmas.List.{drop-set}
use Rattle.rt_shell_lines.proofs.Numbers.{id-put, length_number}
use Rattle.rt_shell_lines.proofs.lines.put_id.Goals as goal

pub put_number-requires-clause-room : goal.put_number-requires-clause-room
put_number-requires-clause-room c =
    let fits : FitsSigned w64 c.args.id.now = search rules in
    rw (to_z-of_z fits) (omega (arith, length_number c.args.id.now fits, c.requires.room))

pub returns-clause-put : goal.returns-clause-put
returns-clause-put c =
    let id = c.args.id.now in
    let bytes = c.args.bytes.now in
    let end = c.args.end in
    let fits : FitsSigned w64 id = search rules in
    let some : 1 ≤ end = omega (arith, c.requires.room) in
    let within : end - 1 < length bytes = omega (arith, c.requires.within, some) in
    let next : end - 1 + 1 ≡ end = omega (arith, some) in
    let feed : drop (end - 1) (set bytes (end - 1) 10) ≡ codes "\n" ++ drop end bytes =
    drop-set bytes (end - 1) 10 within ∙ ap (λ (n : ℕ). 10 ∷ drop n bytes) next in
    let put : drop c.put_number.result c.put_number.new.bytes ≡ signed_decimal id ++ drop (end - 1) (set bytes (end - 1) 10) = rw (to_z-of_z fits) at c.put_number.ensures.put in
    put ∙ ap (λ (text : List ℕ). signed_decimal id ++ text) feed ∙ id-put id (drop end bytes)

pub returns-clause-few : goal.returns-clause-few
returns-clause-few c =
    let fits : FitsSigned w64 c.args.id.now = search rules in
    let long = rw (to_z-of_z fits) at c.put_number.ensures.long in
    omega (arith, long, length_number c.args.id.now fits, c.requires.room)
