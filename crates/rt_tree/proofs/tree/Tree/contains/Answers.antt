use Rattle.std.proofs.Common.{◌≡◌, ℕ, Option, None, Some, refl, sym, ap, ◌∙◌}
use Rattle.std.specs.Prelude.{is_some}
use Rattle.std.specs.Option.{option_map}
use Rattle.rt_tree.specs.Lists.{TreeLists, box_of}
use Rattle.rt_tree.proofs.Kept.{settled}
use Rattle.rt_tree.proofs.Rows.{has-row}
use Rattle.rt_tree.proofs.tree.Tree.contains.Goals as goal

found-leaf : (found : Option (ℕ × ℕ)) → is_some (option_map (λ f. f.1) found) ≡ is_some found
found-leaf None = refl
found-leaf (Some f) = refl

pub returns : goal.returns
returns g c =
    c.is_some.ensures
    ∙ sym (found-leaf c.find_leaf.result)
    ∙ ap is_some c.find_leaf.ensures.leaf
    ∙ sym (has-row c.self.inside.arena (settled c.self.inside c.self.invariant) c.args.id.now)
    ∙ ap (λ (v : TreeLists g.row.D). is_some (box_of v.lists c.args.id.now)) c.self.view_is
