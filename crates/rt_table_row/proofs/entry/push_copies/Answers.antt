use Rattle.std.proofs.Common.{◌++◌, List, length, take, ap, ◌∙◌, falls}
use Rattle.std.proofs.lemmas.List.{take_all}
use Rattle.std.proofs.lemmas.Result.{IfOk-from_err}
use Rattle.rt_sql_statement.specs.declared.value.Value.{Value}
use Rattle.rt_table_row.proofs.Stepwise.{copied-more, is-prefix, not-shorter}
use Rattle.rt_table_row.proofs.entry.push_copies.Goals as goal

pub bounds-auxiliary-value-index : goal.bounds-auxiliary-value-index
bounds-auxiliary-value-index c = c.loop-value-test.true

pub loop-value-smaller : goal.loop-value-smaller
loop-value-smaller c = falls (length c.args.auxiliary.now) c.loop-value.value-index c.loop-value-test.true

pub loop-value-preserved : goal.loop-value-preserved
loop-value-preserved c =
    copied-more c.args.auxiliary.now c.loop-value.value-index c.value-item.result c.loop-value-test.true c.value-item.is c.args.values.now.items c.loop-value.values.items
    c.push.new.self.items c.in_ok-try_clone.field-0 c.loop-value.invariant c.in_ok-push.ensures.items c.in_ok-try_clone.ensures

pub returns-clause-ok : goal.returns-clause-ok
returns-clause-ok c =
    c.loop-value.invariant ∙ ap (λ (xs : List Value). c.args.values.now.items ++ xs) (take_all c.loop-value.value-index c.args.auxiliary.now c.loop-value-test.false)

pub returns-clause-kept : goal.returns-clause-kept
returns-clause-kept c = is-prefix c.args.values.now.items (take c.loop-value.value-index c.args.auxiliary.now) c.loop-value.values.items c.loop-value.invariant

pub returns-clause-longer : goal.returns-clause-longer
returns-clause-longer c = not-shorter c.args.values.now.items (take c.loop-value.value-index c.args.auxiliary.now) c.loop-value.values.items c.loop-value.invariant

pub returns-in_err-try_clone-clause-ok : goal.returns-in_err-try_clone-clause-ok
returns-in_err-try_clone-clause-ok c = IfOk-from_err _ _ c.from_residual.ensures.0

pub returns-in_err-try_clone-clause-kept : goal.returns-in_err-try_clone-clause-kept
returns-in_err-try_clone-clause-kept c = is-prefix c.args.values.now.items (take c.loop-value.value-index c.args.auxiliary.now) c.loop-value.values.items c.loop-value.invariant

pub returns-in_err-try_clone-clause-longer : goal.returns-in_err-try_clone-clause-longer
returns-in_err-try_clone-clause-longer c = not-shorter c.args.values.now.items (take c.loop-value.value-index c.args.auxiliary.now) c.loop-value.values.items c.loop-value.invariant

pub returns-in_err-push-clause-ok : goal.returns-in_err-push-clause-ok
returns-in_err-push-clause-ok c = IfOk-from_err _ _ c.from_residual-in_err-push.ensures.0

pub returns-in_err-push-clause-kept : goal.returns-in_err-push-clause-kept
returns-in_err-push-clause-kept c =
    is-prefix c.args.values.now.items (take c.loop-value.value-index c.args.auxiliary.now) c.push.new.self.items (c.in_err-push.ensures.items ∙ c.loop-value.invariant)

pub returns-in_err-push-clause-longer : goal.returns-in_err-push-clause-longer
returns-in_err-push-clause-longer c =
    not-shorter c.args.values.now.items (take c.loop-value.value-index c.args.auxiliary.now) c.push.new.self.items (c.in_err-push.ensures.items ∙ c.loop-value.invariant)
