use Rattle.std.proofs.Common.{◌≡◌, ap, sym, subst, ◌∙◌, refl, ℤ, List}
use Rattle.std.specs.Prelude.{Contains}
use Rattle.rt_check.specs.Shadow.{numbers_of}
use Rattle.rt_check.proofs.Known.{Contains-number}
use Rattle.rt_check.proofs.shadow.Shadow.add_node.Goals as goal

pub returns-then-contains-clause-twice : goal.returns-then-contains-clause-twice
returns-then-contains-clause-twice g c =
    let found : Contains c.self.inside.numbers.keys c.args.node.number = Contains-number c.args.node.number c.self.inside.numbers.keys (sym c.if-contains.ensures) in
    let listed : c.self.inside.numbers.keys ≡ numbers_of c.args.self.now.nodes = c.self.invariant.numbers ∙ ap (λ s. numbers_of s.nodes) c.self.view_is in
    (λ _. subst (λ (keys : List ℤ). Contains keys c.args.node.number) listed found, λ _. refl)
