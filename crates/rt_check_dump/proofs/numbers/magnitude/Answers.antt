use Rattle.std.proofs.Common.{arith}
use Rattle.rt_check_dump.proofs.Numerals.{number_after-tenfold}
use Rattle.rt_check_dump.proofs.numbers.magnitude.Goals as goal

pub returns-then-number-gt922337203685477580-clause-beyond : goal.returns-then-number-gt922337203685477580-clause-beyond
returns-then-number-gt922337203685477580-clause-beyond c =
    let tenfold = number_after-tenfold c.loop-digit.number c.args.digits.now c.loop-digit.digit-index _ (omega arith) c.loop-digit.invariant in
    omega (arith, tenfold)
