use Rattle.std.proofs.Common.{◌<◌, ◌-◌, length, arith, ◌∙◌, sym}
use Rattle.std.proofs.lemmas.Bool.{false≢true}
use Rattle.rt_tree_choice.proofs.Partings.{quality-at, parting-takes, parting-keeps, margins-more}
use Rattle.rt_tree_choice.proofs.split.best_parting.Goals as goal
use Rattle.rt_tree_choice.proofs.split.best_parting.Goals.{then-is_better, else-is_better}

pub loop-first-preserved : goal.loop-first-preserved
loop-first-preserved g c =
    let fronts = c.args.fronts.now in
    let backs = c.args.backs.now in
    let inv = c.loop-first.invariant in
    let in_fronts : c.loop-first.first - 1 < length fronts = omega (arith, c.requires.fronts_long) in
    let in_backs : c.loop-first.first < length backs = omega (arith, c.requires.backs_long, c.requires.some, c.requires.room) in
    let here = quality-at fronts backs c.loop-first.first c.index-fronts-first.result c.index-backs-first.result c.quality_of-other.result
    in_fronts in_backs c.index-fronts-first.is c.index-backs-first.is c.quality_of-other.ensures in
    let margins_are = margins-more fronts backs c.args.least c.loop-first.first c.loop-first.margins _ _ _ _ (omega arith)
    in_fronts in_backs c.index-fronts-first.is c.index-backs-first.is c.margin-in-loop-first.ensures.value c.margin-in-loop-first-2.ensures.value
    inv.margins_are in
    elim c.if-is_better.branch [
      | then-is_better w ↦ record {
        margins_are = margins_are;
        few_margins = omega (arith, c.margin-in-loop-first.ensures.bound, c.margin-in-loop-first-2.ensures.bound, inv.few_margins);
        quality_is = rw (w.quality-is, w.best-is) here;
        best_so_far = rw w.best-is (parting-takes fronts backs c.args.least c.loop-first.first c.loop-first.best c.loop-first.quality c.quality_of-other.result
            inv.quality_is here inv.best_so_far (c.is_better.ensures.0 w.if-is_better.true));
      }
      | else-is_better w ↦ record {
        margins_are = margins_are;
        few_margins = omega (arith, c.margin-in-loop-first.ensures.bound, c.margin-in-loop-first-2.ensures.bound, inv.few_margins);
        quality_is = rw (w.quality-is, w.best-is) inv.quality_is;
        best_so_far = rw w.best-is (parting-keeps fronts backs c.args.least c.loop-first.first c.loop-first.best c.loop-first.quality c.quality_of-other.result
            inv.quality_is here inv.best_so_far (λ less. false≢true (sym w.if-is_better.false ∙ c.is_better.ensures.1 less)));
      }
    ]
