use Rattle.std.proofs.Common.{sym, ◌∙◌, ap, ◌&&◌, Some}
use Rattle.rt_check.specs.Conditions.{node_of, lies_in}
use Rattle.rt_check.proofs.Hulls.{fits-fit}
use Rattle.rt_check.proofs.conditions.fits_child.Goals as goal

pub returns-then-lies_in : goal.returns-then-lies_in
returns-then-lies_in g c =
    c.lies_in-then-lies_in.ensures
    ∙ ap (λ held. held && lies_in c.args.cell.now c.in-Some.fit.now) c.if-lies_in.ensures
    ∙ sym (fits-fit c.args.cell.now (node_of c.args.shadow.now.nodes c.args.cell.now.number) (Some c.in-Some.fit.now) c.in-Some.ensures)

pub returns-else-lies_in : goal.returns-else-lies_in
returns-else-lies_in g c =
    c.if-lies_in.false
    ∙ ap (λ held. held && lies_in c.args.cell.now c.in-Some.fit.now) c.if-lies_in.ensures
    ∙ sym (fits-fit c.args.cell.now (node_of c.args.shadow.now.nodes c.args.cell.now.number) (Some c.in-Some.fit.now) c.in-Some.ensures)
