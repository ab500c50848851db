use Rattle.std.proofs.Common.{◌||◌, ℤ, List, rules, sym, ap, ◌∙◌, subst}
use Rattle.std.specs.List.{list_any}
use Rattle.std.specs.Ordering.{int_eq}
use Rattle.std.proofs.lemmas.List.{take_more, take_all}
use Rattle.rt_table_store.specs.GreatestIds.{Ranks}
use Rattle.rt_table_store.proofs.Ranking.{ranks-same, behind}
use Rattle.rt_table_store.proofs.largest.add_all.Goals as goal

pub loop-id-preserved : goal.loop-id-preserved
loop-id-preserved c =
    let xs = c.args.more.now in
    let i = c.loop-id.id-index in
    record {
      ranks = λ there r. ranks-same _ _ _ (λ o. behind o _ _ (there o) ∙ ap (λ (ys : List ℤ). list_any (int_eq o) ys || there o) (sym (take_more xs i _ c.loop-id-test.true))) (c.add.ensures.ranks _ (c.loop-id.invariant.ranks there r));
      order = search rules;
      capacity = search rules;
    }

pub returns-clause-ranks : goal.returns-clause-ranks
returns-clause-ranks c = λ there r.
    subst (λ (ys : List ℤ). Ranks (λ id. list_any (int_eq id) ys || there id) c.loop-id.ids.items) (take_all c.loop-id.id-index c.args.more.now c.loop-id-test.false) (c.loop-id.invariant.ranks there r)
