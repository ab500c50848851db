use Rattle.std.proofs.Common.{List, Option, sym, subst}
use Rattle.rt_box.specs.declared.interval.Interval.{Interval}
use Rattle.rt_tree.specs.Lists.{rows_of}
use Rattle.rt_live.specs.Finding.{is_new, Appends}
use Rattle.rt_live.specs.Room.{HasRoomToAppend}
use Rattle.rt_live.proofs.Found.{appended-none}
use Rattle.rt_live.proofs.finding.append_there.Goals as goal

pub returns-in-None-clause-rows : goal.returns-in-None-clause-rows
returns-in-None-clause-rows g c =
    let rows = rows_of c.args.tree.now.lists in
    let found = c.args.scratch.now.found.items in
    subst (λ (o : Option (List Interval)). Appends rows (is_new o c.args.except.now) found found) (sym c.in-None.is) (appended-none rows found c.args.except.now)

pub returns-in-Some-clause-succeeds : goal.returns-in-Some-clause-succeeds
returns-in-Some-clause-succeeds g c = λ room. c.append_touching.ensures.succeeds
    (subst (λ (o : Option (List Interval)). HasRoomToAppend c.args.tree.now.lists o c.args.except.now c.args.scratch.now) c.in-Some.is room)
