use Rattle.std.proofs.Common.{arith, ◌∙◌, sym}
use Rattle.std.proofs.lemmas.Bool.{false≢true}
use Rattle.rt_tree_subtree.proofs.Children.{IsBestChild-from_costs, takes_cost, keeps_cost}
use Rattle.rt_tree_subtree.proofs.subtree.least_cost.Goals as goal
use Rattle.rt_tree_subtree.proofs.subtree.least_cost.Goals.{then-is_less, else-is_less}

pub loop-position-preserved : goal.loop-position-preserved
loop-position-preserved g c =
    let inv = c.loop-position.invariant in
    elim c.if-is_less.branch [
      | then-is_less w ↦ record {
        cost_is = rw (w.best-is, w.least-is) c.cost_of-cost.ensures;
        least_so_far = rw w.best-is (takes_cost _ _ _ _ _ c.cost_of-cost.result c.loop-position.least inv.least_so_far c.cost_of-cost.ensures inv.cost_is (c.is_less.ensures.0 w.if-is_less.true));
      }
      | else-is_less w ↦ record {
        cost_is = rw (w.best-is, w.least-is) inv.cost_is;
        least_so_far = rw w.best-is (keeps_cost _ _ _ _ _ c.cost_of-cost.result c.loop-position.least inv.least_so_far c.cost_of-cost.ensures inv.cost_is
            (λ less. false≢true (sym w.if-is_less.false ∙ c.is_less.ensures.1 less)));
      }
    ]

pub returns : goal.returns
returns g c = IsBestChild-from_costs _ _ _ c.loop-position.position _ (omega arith) c.loop-position.invariant.least_so_far
