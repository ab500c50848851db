use Rattle.std.proofs.Common.{arith, rules, FitsSigned, w64, to_z-of_z}
use Rattle.rt_shell_lines.proofs.Numbers.{length_number}
use Rattle.rt_shell_lines.proofs.lines.put_column.Goals as goal

pub put_number-requires-clause-room : goal.put_number-requires-clause-room
put_number-requires-clause-room g c =
    let fits : FitsSigned w64 c.in-Number.number = search rules in
    rw (to_z-of_z fits) (omega (arith, length_number c.in-Number.number fits, c.requires.room))

pub returns-in-Number-clause-few : goal.returns-in-Number-clause-few
returns-in-Number-clause-few g c =
    let fits : FitsSigned w64 c.in-Number.number = search rules in
    let long = rw (to_z-of_z fits) at c.put_number.ensures.long in
    omega (arith, long, length_number c.in-Number.number fits)
