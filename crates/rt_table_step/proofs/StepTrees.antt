-- Trees that take steps, one after the other.
use Rattle.std.proofs.Common.{◌≡◌, ℕ, List, [], ◌∷◌, ◌++◌, refl, subst}
use Rattle.rt_check.specs.Shadow.{ShadowLists}
use Rattle.rt_table_row.specs.Rows.{TableRow}
use Rattle.rt_table_row.specs.Edits.{Step, after_step, outcome}
use Rattle.rt_table_store.specs.Trees.{IsTreeOf, TakesStep, TakesEach}

-- the rows after some steps and then one more
pub outcome-last : (rows : List TableRow) (steps : List Step) (step : Step) → outcome rows (steps ++ step ∷ []) ≡ after_step (outcome rows steps) step
outcome-last rows [] step = refl
outcome-last rows (first ∷ steps) step = outcome-last (after_step rows first) steps step

module _ {D : ℕ} where
  -- a tree that took some steps takes one more
  pub one_more : (rows : List TableRow) (steps : List Step) (step : Step) (a b c : ShadowLists D) → TakesEach rows steps a b
      → TakesStep (outcome rows steps) step b c → IsTreeOf (after_step (outcome rows steps) step) c → TakesEach rows (steps ++ step ∷ []) a c
  one_more rows [] step a b c same takes stands = (c, subst (λ (t : ShadowLists D). TakesStep rows step t c) same takes, stands, refl)
  one_more rows (first ∷ steps) step a b c (next, first_taken, between, each) takes stands =
      (next, first_taken, between, one_more (after_step rows first) steps step next b c each takes stands)
