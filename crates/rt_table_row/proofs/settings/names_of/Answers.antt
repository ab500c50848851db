use Rattle.std.proofs.Common.{map, ap, ◌∙◌}
use Rattle.std.proofs.lemmas.List.{take_all}
use Rattle.rt_table_row.specs.Edits.{Setting}
use Rattle.rt_table_row.proofs.Stepwise.{mapped-more}
use Rattle.rt_table_row.proofs.settings.names_of.Goals as goal

pub loop-set-preserved : goal.loop-set-preserved
loop-set-preserved c =
    mapped-more c.args.sets.now c.loop-set.set-index c.set-item.result c.loop-set-test.true c.set-item.is (λ (x : Setting). x.0)
    c.in_ok-try_clone.field-0 c.loop-set.names.items c.push.new.self.items c.loop-set.invariant c.in_ok-push.ensures.items c.in_ok-try_clone.ensures

pub returns : goal.returns
returns c = c.loop-set.invariant ∙ ap (map (λ (x : Setting). x.0)) (take_all c.loop-set.set-index c.args.sets.now c.loop-set-test.false)
