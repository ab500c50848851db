use Rattle.std.proofs.Common.{◌∙◌, Some, List, sym, subst}
use Rattle.rt_box.specs.declared.interval.Interval.{Interval}
use Rattle.rt_live.specs.Finding.{Encloses}
use Rattle.rt_live.proofs.Enclosing.{encloses-both}
use Rattle.rt_live.proofs.hull.union_if_close.Goals as goal

pub returns : goal.returns
returns g c =
    subst (λ (hull : List Interval). Encloses (Some c.args.rect.now) (Some c.args.other.now) hull) (sym c.union.ensures)
    (encloses-both c.args.rect.now c.args.other.now (c.facts.ensures.axes_are ∙ sym c.facts-2.ensures.axes_are))
