use Rattle.std.proofs.Common.{FitsSigned, w64, rules}
use Rattle.std.proofs.lemmas.Int.{to_z-of_z}
use Rattle.rt_table_row.specs.Edits.{steps_of, leaving}
use Rattle.rt_table.proofs.Leaving.{edited-alone}
use Rattle.rt_table.proofs.table.Table.edit.Goals as goal

pub returns-in-Some-clause-ok : goal.returns-in-Some-clause-ok
returns-in-Some-clause-ok g c =
    let old = c.args.self.now.lists in
    let id = c.in-Some.id in
    let fits : FitsSigned w64 id = search rules in
    rw c.new.ensures (
    edited-alone old c.take.new.self.lists (steps_of c.args.edit old.columns old.rows) (leaving old.rows id) c.in-Some.ensures.steps c.in-Some.ensures.unwatched
    (rw (to_z-of_z w64 id fits) at c.take.ensures.lists)
    )

pub returns-in-Some-clause-tree : goal.returns-in-Some-clause-tree
returns-in-Some-clause-tree g c =
    let id = c.in-Some.id in
    let fits : FitsSigned w64 id = search rules in
    rw c.in-Some.ensures.steps (rw (to_z-of_z w64 id fits) at c.take.ensures.tree)
