use Rattle.std.proofs.Common.{ℕ, Bool, ◌&&◌, ap, ◌∙◌}
use Rattle.std.specs.Prelude.{int_le}
use Rattle.rt_check.specs.Conditions.{each_axis, coordinate}
use Rattle.rt_check.proofs.Axes.{each_axis-both}
use Rattle.rt_check.proofs.conditions.lies_in.Goals as goal

pub returns-then-are_at_most : goal.returns-then-are_at_most
returns-then-are_at_most g c =
    let begins : ℕ → Bool = λ axis. int_le (coordinate c.args.outer.now.lo axis) (coordinate c.args.inner.now.lo axis) in
    let ends : ℕ → Bool = λ axis. int_le (coordinate c.args.inner.now.hi axis) (coordinate c.args.outer.now.hi axis) in
    c.are_at_most-then-are_at_most.ensures
    ∙ ap (λ held. held && each_axis ends g.row.D) c.if-are_at_most.ensures
    ∙ each_axis-both begins ends g.row.D

pub returns-else-are_at_most : goal.returns-else-are_at_most
returns-else-are_at_most g c =
    let begins : ℕ → Bool = λ axis. int_le (coordinate c.args.outer.now.lo axis) (coordinate c.args.inner.now.lo axis) in
    let ends : ℕ → Bool = λ axis. int_le (coordinate c.args.inner.now.hi axis) (coordinate c.args.outer.now.hi axis) in
    c.if-are_at_most.false
    ∙ ap (λ held. held && each_axis ends g.row.D) c.if-are_at_most.ensures
    ∙ each_axis-both begins ends g.row.D
