use Rattle.std.proofs.Common.{ℕ, Bool, sym, ◌∙◌, arith}
use Rattle.std.specs.Prelude.{int_le}
use Rattle.rt_check.specs.Conditions.{coordinate}
use Rattle.rt_check.proofs.Axes.{each_axis-fails}
use Rattle.rt_check.proofs.conditions.are_at_most.Goals as goal

pub returns-then-not-is_at_most_on : goal.returns-then-not-is_at_most_on
returns-then-not-is_at_most_on g c =
    let test : ℕ → Bool = λ axis. int_le (coordinate c.args.low.now axis) (coordinate c.args.high.now axis) in
    each_axis-fails test g.row.D c.loop-axis.axis (omega arith) (sym c.is_at_most_on.ensures ∙ c.if-not-is_at_most_on.true)
