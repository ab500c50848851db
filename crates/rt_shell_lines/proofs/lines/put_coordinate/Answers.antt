use Rattle.std.proofs.Common.{◌≡◌, ◌≤◌, ◌+◌, ◌-◌, ℕ, List, ◌∷◌, drop, ap, ◌∙◌, arith, rules, FitsSigned, w64, to_z-of_z}
use Rattle.std.proofs.lemmas.List.{drop-set}
use Rattle.rt_shell_lines.proofs.Numbers.{length_coordinate}
use Rattle.rt_shell_lines.proofs.lines.put_coordinate.Goals as goal

pub put_number-start-requires-clause-room : goal.put_number-start-requires-clause-room
put_number-start-requires-clause-room c =
    let fits : FitsSigned w64 c.from.result = search rules in
    rw (to_z-of_z fits, c.from.ensures, to_z-of_z c.ranges.number) (omega (arith, length_coordinate c.args.number c.ranges.number, c.requires.room))

pub overflow_sub-bytes : goal.overflow_sub-bytes
overflow_sub-bytes c =
    let fits : FitsSigned w64 c.from.result = search rules in
    let long = rw (to_z-of_z fits, c.from.ensures, to_z-of_z c.ranges.number) at c.put_number-start.ensures.long in
    omega (arith, long, length_coordinate c.args.number c.ranges.number, c.requires.room)

pub overflow_sub-result : goal.overflow_sub-result
overflow_sub-result c =
    let fits : FitsSigned w64 c.from.result = search rules in
    let long = rw (to_z-of_z fits, c.from.ensures, to_z-of_z c.ranges.number) at c.put_number-start.ensures.long in
    omega (arith, long, length_coordinate c.args.number c.ranges.number, c.requires.room)

pub returns-clause-few : goal.returns-clause-few
returns-clause-few c =
    let fits : FitsSigned w64 c.from.result = search rules in
    let long = rw (to_z-of_z fits, c.from.ensures, to_z-of_z c.ranges.number) at c.put_number-start.ensures.long in
    omega (arith, long, length_coordinate c.args.number c.ranges.number, c.requires.room)

pub returns-clause-put : goal.returns-clause-put
returns-clause-put c =
    let fits : FitsSigned w64 c.from.result = search rules in
    let long = rw (to_z-of_z fits, c.from.ensures, to_z-of_z c.ranges.number) at c.put_number-start.ensures.long in
    let put = rw (to_z-of_z fits, c.from.ensures, to_z-of_z c.ranges.number) at c.put_number-start.ensures.put in
    let at = c.put_number-start.result in
    let some : 1 ≤ c.put_number-start.result = omega (arith, long, length_coordinate c.args.number c.ranges.number, c.requires.room) in
    let next : at - 1 + 1 ≡ at = omega arith in
    drop-set c.put_number-start.new.bytes (at - 1) 124 (omega arith) ∙ ap (λ (n : ℕ). 124 ∷ drop n c.put_number-start.new.bytes) next ∙ ap (λ (l : List ℕ). 124 ∷ l) put
