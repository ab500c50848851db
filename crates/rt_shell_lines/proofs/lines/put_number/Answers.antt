use Rattle.std.proofs.Common.{arith, to_z-of_z}
use Rattle.rt_shell_lines.proofs.Numbers.{digits_fit}
use Rattle.rt_shell_lines.proofs.lines.put_number.Goals as goal

pub write_digits-start-requires : goal.write_digits-start-requires
write_digits-start-requires c =
    rw (c.unsigned_abs.ensures.value, to_z-of_z c.ranges.number) (omega (arith, digits_fit c.args.number, c.requires.room), c.requires.within)
