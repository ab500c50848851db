use Rattle.std.proofs.Common.{◌++◌, codes, refl}
use Rattle.rt_bytes.proofs.Writing.{WritesAll-trans, Writes-after}
use Rattle.rt_shell_lines.proofs.Sequences.{Writes-middle}
use Rattle.rt_sql.specs.Token.{double}
use Rattle.rt_shell_lines.proofs.value.write_text.Goals as goal

pub returns-in_err-write_doubled : goal.returns-in_err-write_doubled
returns-in_err-write_doubled g c =
    Writes-middle _ _ _ _ _ _ _ (codes "'") (double 39 c.args.text.now) (codes "'") _ refl c.from_residual-in_err-write_doubled.ensures.0
    c.in_ok-write_whole.ensures c.in_err-write_doubled.ensures

pub returns : goal.returns
returns g c =
    Writes-after _ _ _ _ _ _ _ (codes "'" ++ double 39 c.args.text.now) (codes "'")
    (WritesAll-trans _ _ _ _ _ _ (codes "'") (double 39 c.args.text.now) c.in_ok-write_whole.ensures c.in_ok-write_doubled.ensures)
    c.write_whole-2.ensures
