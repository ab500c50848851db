use Rattle.std.proofs.Common.{sym, ap, ◌∙◌}
use Rattle.rt_tree.specs.Lists.{TreeLists, box_of}
use Rattle.rt_tree.proofs.Kept.{settled}
use Rattle.rt_tree.proofs.Rows.{box-none}
use Rattle.rt_tree.proofs.Located.{found-box}
use Rattle.rt_tree.proofs.tree.Tree.get.Goals as goal

pub returns-in_err-location : goal.returns-in_err-location
returns-in_err-location g c =
    c.from_residual.ensures
    ∙ sym (box-none c.self.inside.arena (settled c.self.inside c.self.invariant) c.args.id.now c.in_err-location.ensures)
    ∙ ap (λ (v : TreeLists g.row.D). box_of v.lists c.args.id.now) c.self.view_is

pub returns : goal.returns
returns g c =
    sym (found-box c.self.inside.arena (settled c.self.inside c.self.invariant) c.args.id.now c.in_ok-location.location c.in_ok-location.ensures)
    ∙ ap (λ (v : TreeLists g.row.D). box_of v.lists c.args.id.now) c.self.view_is
