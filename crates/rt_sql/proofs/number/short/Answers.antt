use Rattle.std.proofs.Common.{◌<◌, arith}
use Rattle.rt_sql.proofs.Numbers.{digit_room, loop_room, whole_room, decimal_from_more}
use Rattle.rt_sql.proofs.number.short.Goals as goal

pub overflow_mul-number : goal.overflow_mul-number
overflow_mul-number c = omega (arith, loop_room c.loop-digit.number c.loop-digit.digit-index c.loop-digit.invariant.0 (omega arith))

pub overflow_add-number : goal.overflow_add-number
overflow_add-number c =
    let byte : c.from.result < 256 = omega (arith, c.from.ensures) in
    omega (arith, loop_room c.loop-digit.number c.loop-digit.digit-index c.loop-digit.invariant.0 (omega arith))

pub loop-digit-preserved : goal.loop-digit-preserved
loop-digit-preserved c =
    let byte : c.from.result < 256 = omega (arith, c.from.ensures) in
    (digit_room c.loop-digit.number c.loop-digit.digit-index c.from.result c.loop-digit.invariant.0 byte, grind (arith, decimal_from_more))

pub returns-clause-within : goal.returns-clause-within
returns-clause-within c = whole_room c.loop-digit.number c.loop-digit.digit-index c.loop-digit.invariant.0 (omega arith)
