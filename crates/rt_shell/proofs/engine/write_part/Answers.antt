use Rattle.rt_bytes.proofs.Writing.{Writes-after}
use Rattle.rt_shell_lines.specs.Lines.{answer_lines, echo_of}
use Rattle.rt_shell.proofs.engine.write_part.Goals as goal

pub returns : goal.returns
returns g c =
    Writes-after _ _ _ _ _ _ _ (echo_of c.args.echo c.args.piece.now) (answer_lines c.args.number.now c.args.answer.now) c.in_ok-write_echo.ensures c.write_answer.ensures
