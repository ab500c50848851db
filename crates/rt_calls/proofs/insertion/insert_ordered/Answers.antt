use Rattle.std.proofs.Common.{List, sym, subst}
use Rattle.rt_tree_walk.specs.declared.searching.Row.{Row}
use Rattle.rt_calls.specs.Numbers.{AreRows}
use Rattle.rt_calls.proofs.insertion.insert_ordered.Goals as goal

pub returns-in-Err-TooMany-clause-rows : goal.returns-in-Err-TooMany-clause-rows
returns-in-Err-TooMany-clause-rows g c =
    let told = c.in-Err-TooMany in
    let fault = rw told.field-0-is at told.ensures.fault in
    let rows = subst (λ (l : List (Row g.row.D)). AreRows c.args.ids.now c.args.boxes.now l) (sym c.deref.ensures.value) c.in-Ok.ensures in
    (c.requires.ordered, c.deref.result.now, rows, fault.0, fault.1, told.ensures.err)
