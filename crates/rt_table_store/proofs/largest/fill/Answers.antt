use Rattle.std.proofs.Common.{◌≡◌, rules, sym, ap, ◌∙◌}
use Rattle.std.specs.List.{list_any}
use Rattle.std.specs.Ordering.{int_eq}
use Rattle.std.proofs.lemmas.List.Sorted.{list_any-IsPermutation}
use Rattle.rt_table_store.proofs.Ranking.{ranks-all}
use Rattle.rt_table_store.proofs.largest.fill.Goals as goal

pub returns-clause-ranks : goal.returns-clause-ranks
returns-clause-ranks c =
    let room = c.requires.room in
    let is : c.extend_from_slice.new.self.items ≡ c.args.more.now = search rules in
    ranks-all _ _ (λ id. sym (list_any-IsPermutation (int_eq id) _ _ c.sort_unstable.ensures.permutation) ∙ ap (list_any (int_eq id)) is)
