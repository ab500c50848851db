use Rattle.std.proofs.Common.{◌≡◌, [], ap, subst, ◌∙◌}
use Rattle.rt_check.specs.Conditions.{problems_of}
use Rattle.rt_table.specs.Held.{Held}
use Rattle.std.proofs.lemmas.Result.{IfOk-weaker}
use Rattle.rt_table.proofs.table.Table.check.Goals as goal

pub returns : goal.returns
returns g c =
    let sound : problems_of c.args.self.now.tree ≡ [] = subst (λ (h : Held g.row.D). problems_of h.tree ≡ []) c.self.view_is c.facts.ensures.stands.shape.sound in
    IfOk-weaker c.check.result (λ problems. problems.items ≡ problems_of c.in_ok-shadow.shadow) (λ problems. problems.items ≡ []) (λ problems listed. listed ∙ ap problems_of c.in_ok-shadow.ensures ∙ sound) c.check.ensures
