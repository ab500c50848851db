use Rattle.std.proofs.Common.{◌++◌, codes, refl}
use Rattle.rt_bytes.proofs.Writing.{WritesAll-trans, Writes-after, Writes-first}
use Rattle.rt_shell_lines.proofs.Sequences.{Writes-middle}
use Rattle.std.specs.List.{flat_map}
use Rattle.rt_shell_lines.specs.Lines.{hex_pair}
use Rattle.rt_shell_lines.proofs.value.write_blob.Goals as goal

pub returns-in_err-write_hex : goal.returns-in_err-write_hex
returns-in_err-write_hex g c =
    Writes-middle _ _ _ _ _ _ _ (codes "X'") (flat_map hex_pair c.args.bytes.now) (codes "'") _ refl c.from_residual-in_err-write_hex.ensures.0
    c.in_ok-write_whole.ensures c.in_err-write_hex.ensures

pub returns : goal.returns
returns g c =
    Writes-after _ _ _ _ _ _ _ (codes "X'" ++ flat_map hex_pair c.args.bytes.now) (codes "'")
    (WritesAll-trans _ _ _ _ _ _ (codes "X'") (flat_map hex_pair c.args.bytes.now) c.in_ok-write_whole.ensures c.in_ok-write_hex.ensures)
    c.write_whole-2.ensures

pub returns-in_err-write_whole : goal.returns-in_err-write_whole
returns-in_err-write_whole g c =
    Writes-first _ _ _ _ _ (codes "X'") (flat_map hex_pair c.args.bytes.now ++ codes "'") _ refl c.from_residual.ensures.0 c.in_err-write_whole.ensures
