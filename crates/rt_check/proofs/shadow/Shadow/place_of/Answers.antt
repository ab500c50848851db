use Rattle.std.proofs.Common.{ap, ◌∙◌}
use Rattle.std.proofs.Math.Facts.{to_z-of_z}
use Rattle.std.specs.Prelude.{position}
use Rattle.std.specs.Ordering.{int_eq}
use Rattle.rt_check.specs.Shadow.{numbers_of}
use Rattle.rt_check.proofs.shadow.Shadow.place_of.Goals as goal

pub returns : goal.returns
returns g c =
    c.index_of.ensures.index
    ∙ ap (λ z. position (int_eq z) c.self.inside.numbers.keys) (to_z-of_z c.ranges.number)
    ∙ ap (position (int_eq c.args.number)) c.self.invariant.numbers
    ∙ ap (λ s. position (int_eq c.args.number) (numbers_of s.nodes)) c.self.view_is
