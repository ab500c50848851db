use Rattle.std.proofs.Common.{◌||◌, ℤ, List, take, drop, sym, ap, ◌∙◌}
use Rattle.std.specs.List.{list_any}
use Rattle.std.specs.Ordering.{int_eq}
use Rattle.std.proofs.lemmas.List.{take-append-drop, take_rest}
use Rattle.std.proofs.lemmas.List.Folds.{list_any-append}
use Rattle.rt_table_store.proofs.Ranking.{ranks-same}
use Rattle.rt_table_store.proofs.largest.refill.Goals as goal

pub returns-clause-ranks : goal.returns-clause-ranks
returns-clause-ranks c =
    let xs = c.args.all.now in
    let rest = c.saturating_sub-rest.result in
    ranks-same _ _ _
    (λ id. ap (λ (ys : List ℤ). list_any (int_eq id) (take rest xs) || list_any (int_eq id) ys) (take_rest xs rest) ∙ sym (list_any-append (int_eq id) (take rest xs) (drop rest xs)) ∙ ap (list_any (int_eq id)) (take-append-drop rest xs))
    (c.add_all.ensures.ranks _ c.fill.ensures.ranks)
