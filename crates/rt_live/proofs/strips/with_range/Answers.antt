use Rattle.std.proofs.Common.{rules, ◌∙◌, ap, set, List, ℤ, w32, FitsSigned}
use Rattle.std.proofs.lemmas.Int.{to_z-of_z}
use Rattle.rt_live.proofs.Covering.{box-with}
use Rattle.rt_live.proofs.strips.with_range.Goals as goal

pub returns : goal.returns
returns g c =
    let axis = c.args.axis in
    let range = c.args.range.now in
    let lo_fits : FitsSigned w32 range.lo = search rules in
    let hi_fits : FitsSigned w32 range.hi = search rules in
    box-with c.new.result c.args.rect.now axis range _ _
    (ap (λ (lo : ℤ). set c.lo-lo.result axis lo) (to_z-of_z w32 range.lo lo_fits) ∙ ap (λ (ends : List ℤ). set ends axis range.lo) c.lo-lo.ensures)
    (ap (λ (hi : ℤ). set c.hi-hi.result axis hi) (to_z-of_z w32 range.hi hi_fits) ∙ ap (λ (ends : List ℤ). set ends axis range.hi) c.hi-hi.ensures)
    c.new.ensures.lo c.new.ensures.hi
