use Rattle.std.proofs.Common.{arith, ◌∙◌, sym}
use Rattle.std.proofs.lemmas.Bool.{false≢true}
use Rattle.rt_tree_subtree.proofs.Areas.{least-growth_best, takes_growth, keeps_growth}
use Rattle.rt_tree_subtree.proofs.plane.least_growth.Goals as goal
use Rattle.rt_tree_subtree.proofs.plane.least_growth.Goals.{then-is_less, else-is_less}

pub loop-position-preserved : goal.loop-position-preserved
loop-position-preserved g c =
    let inv = c.loop-position.invariant in
    elim c.if-is_less.branch [
      | then-is_less w ↦ record {
        growth_is = rw (w.best-is, w.least-is) c.growth_of-growth.ensures;
        least_so_far = rw w.best-is (takes_growth _ _ _ _ c.growth_of-growth.result c.loop-position.least inv.least_so_far c.growth_of-growth.ensures inv.growth_is
            (c.is_less.ensures.0 w.if-is_less.true));
      }
      | else-is_less w ↦ record {
        growth_is = rw (w.best-is, w.least-is) inv.growth_is;
        least_so_far = rw w.best-is (keeps_growth _ _ _ _ c.growth_of-growth.result c.loop-position.least inv.least_so_far c.growth_of-growth.ensures inv.growth_is
            (λ less. false≢true (sym w.if-is_less.false ∙ c.is_less.ensures.1 less)));
      }
    ]

pub returns : goal.returns
returns g c = least-growth_best _ _ c.loop-position.position _ (omega arith) c.loop-position.invariant.least_so_far
