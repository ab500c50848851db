use Rattle.std.proofs.Common.{◌∙◌, sym, arith}
use Rattle.rt_sql.proofs.Numbers.{decimal_from_end}
use Rattle.rt_sql.proofs.number.magnitude.Goals as goal

pub returns : goal.returns
returns c =
    let is_whole = sym (decimal_from_end c.loop-digit.number c.loop-digit.digit-index c.as_bytes-digit-items.result.now (omega arith)) ∙ c.loop-digit.invariant.1 in
    (rw (← is_whole) c.loop-digit.invariant.0, is_whole)
