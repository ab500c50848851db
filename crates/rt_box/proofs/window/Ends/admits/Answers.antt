use Rattle.std.proofs.Common.{w32, FitsSigned, arith, rules}
use Rattle.std.proofs.lemmas.Bool.{and_parts, and_from}
use Rattle.std.proofs.lemmas.Int.{ints}
use Rattle.rt_box.proofs.window.Ends.admits.Goals as goal

pub returns : goal.returns
returns c =
    let lo_fits : FitsSigned w32 c.args.side.now.lo = search rules in
    let hi_fits : FitsSigned w32 c.args.side.now.hi = search rules in (
      (λ t.
          let both = and_parts _ _ t in
          let least = and_parts _ _ both.0 in
          let greatest = and_parts _ _ both.1 in
          let lo_begins = c.begins_by.ensures.0 least.0 in
          let hi_begins = c.begins_by-2.ensures.0 least.1 in
          let lo_lasts = c.lasts_to.ensures.0 greatest.0 in
          let hi_lasts = c.lasts_to-2.ensures.0 greatest.1 in
          ((omega (arith, ints, lo_begins), omega (arith, ints, lo_lasts)), (omega (arith, ints, hi_begins), omega (arith, ints, hi_lasts)))),
      (λ h. and_from _ _
          (and_from _ _ (c.begins_by.ensures.1 (omega (arith, ints, h.0.0))) (c.begins_by-2.ensures.1 (omega (arith, ints, h.1.0))))
          (and_from _ _ (c.lasts_to.ensures.1 (omega (arith, ints, h.0.1))) (c.lasts_to-2.ensures.1 (omega (arith, ints, h.1.1))))),
    )
