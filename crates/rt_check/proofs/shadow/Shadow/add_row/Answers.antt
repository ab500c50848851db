use Rattle.std.proofs.Common.{◌≡◌, ap, sym, subst, ◌∙◌, refl, ℤ, List}
use Rattle.std.specs.Prelude.{Contains}
use Rattle.rt_check.specs.Shadow.{ids_of}
use Rattle.rt_check.proofs.Known.{Contains-number}
use Rattle.rt_check.proofs.shadow.Shadow.add_row.Goals as goal

pub returns-then-contains-clause-twice : goal.returns-then-contains-clause-twice
returns-then-contains-clause-twice g c =
    let found : Contains c.self.inside.ids.keys c.args.row.id = Contains-number c.args.row.id c.self.inside.ids.keys (sym c.if-contains.ensures) in
    let listed : c.self.inside.ids.keys ≡ ids_of c.args.self.now.rows = c.self.invariant.ids ∙ ap (λ s. ids_of s.rows) c.self.view_is in
    (λ _. subst (λ (keys : List ℤ). Contains keys c.args.row.id) listed found, λ _. refl)
