use Rattle.std.proofs.Common.{sym, ◌∙◌, Some}
use Rattle.rt_check.specs.Conditions.{node_of}
use Rattle.rt_check.proofs.Hulls.{holds-fit}
use Rattle.rt_check.proofs.conditions.holds_child.Goals as goal

pub returns-in-Some : goal.returns-in-Some
returns-in-Some g c =
    c.lies_in.ensures
    ∙ sym (holds-fit c.args.cell.now (node_of c.args.shadow.now.nodes c.args.cell.now.number) (Some c.in-Some.fit.now) c.in-Some.ensures)
