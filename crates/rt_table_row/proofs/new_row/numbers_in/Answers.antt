use Rattle.std.proofs.Common.{◌≡◌, [], ◌∷◌, ◌++◌, map, FitsSigned, w64, to_z-of_z, rules, ap, ◌∙◌, lit<}
use Rattle.std.proofs.lemmas.List.{take_all}
use Rattle.rt_table_row.specs.NewRows.{number_in}
use Rattle.rt_table_row.proofs.Stepwise.{mapped-more, mapped-room}
use Rattle.rt_table_row.proofs.new_row.numbers_in.Goals as goal

pub push-requires : goal.push-requires
push-requires c =
    (lit< tt, mapped-room c.args.values.now c.loop-value.value-index number_in c.loop-value.numbers.items 6 c.loop-value-test.true c.loop-value.invariant c.requires)

pub loop-value-preserved : goal.loop-value-preserved
loop-value-preserved c =
    let fits : FitsSigned w64 c.number_in.result = search rules in
    let pushed : c.push.new.self.items ≡ c.loop-value.numbers.items ++ c.number_in.result ∷ [] = rw (to_z-of_z fits) at c.push.ensures.items in
    mapped-more c.args.values.now c.loop-value.value-index c.value-item.result c.loop-value-test.true c.value-item.is number_in
    c.number_in.result c.loop-value.numbers.items c.push.new.self.items c.loop-value.invariant pushed c.number_in.ensures

pub returns : goal.returns
returns c = c.loop-value.invariant ∙ ap (map number_in) (take_all c.loop-value.value-index c.args.values.now c.loop-value-test.false)
