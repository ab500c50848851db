use Rattle.std.proofs.Common.{arith, pos, get_or, w32, FitsSigned, rules}
use Rattle.std.proofs.lemmas.Int.{ints}
use Rattle.std.proofs.lemmas.List.{length-set}
use Rattle.rt_box.proofs.Made.{IsMadeBelow-more, IsMadeBelow-all}
use Rattle.rt_box.proofs.rect.Rect.new.Goals as goal

pub loop-axis-preserved : goal.loop-axis-preserved
loop-axis-preserved g c =
    let lo_fits : FitsSigned w32 (get_or c.args.lo c.loop-axis.axis (pos 0)) = search rules in
    let hi_fits : FitsSigned w32 (get_or c.args.hi c.loop-axis.axis (pos 0)) = search rules in (
      search (rules, length-set),
      IsMadeBelow-more c.args.lo c.args.hi c.loop-axis.sides c.loop-axis.axis _ _ (omega arith) (omega arith) (omega arith)
          (omega (arith, ints)) (omega (arith, ints)) (omega (arith, ints)) (omega (arith, ints)) (omega (arith, ints)) c.loop-axis.invariant.1,
    )

pub returns-clause-valid : goal.returns-clause-valid
returns-clause-valid g c =
    ((λ _. IsMadeBelow-all _ _ _ _ (omega arith) (omega arith) (omega arith) c.loop-axis.invariant.1), (λ _. search rules))
