use Rattle.std.proofs.Common.{ℤ, List, sym, subst}
use Rattle.rt_table_store.specs.GreatestIds.{Ranks}
use Rattle.rt_table_store.proofs.largest.Largest.push.Goals as goal

pub returns : goal.returns
returns c = λ there r. c.add.ensures.ranks there (subst (λ (xs : List ℤ). Ranks there xs) (sym c.self.view_is) r)
