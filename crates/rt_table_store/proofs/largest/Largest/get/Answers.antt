use Rattle.std.proofs.Common.{ℤ, List, rules, subst}
use Rattle.std.specs.Option.{option_copied}
use Rattle.rt_table_store.specs.GreatestIds.{IsTop}
use Rattle.rt_table_store.proofs.Ranking.{last-is-top}
use Rattle.rt_table_store.proofs.largest.Largest.get.Goals as goal

pub returns : goal.returns
returns c =
    let order = c.self.invariant.0 in
    let top : IsTop c.args.self.now (option_copied c.last.result) =
    subst (λ (xs : List ℤ). IsTop xs (option_copied c.last.result)) c.self.view_is (last-is-top c.self.inside.ids.items order c.last.result (search rules)) in
    search rules
