use Rattle.std.proofs.Common.{◌≡◌, List, Option, true, subst}
use Rattle.rt_box.specs.declared.interval.Interval.{Interval}
use Rattle.rt_live.specs.Changes.{touches}
use Rattle.rt_live.proofs.Enclosing.{held-touches}
use Rattle.rt_live.proofs.hull.holds.Goals as goal

pub returns-in-Some : goal.returns-in-Some
returns-in-Some g c = λ held other e.
    held-touches c.args.hull.now c.in-Some.rect other (c.contains.ensures.0 held) (subst (λ (rect : Option (List Interval)). touches rect other ≡ true) c.in-Some.is e)
