use Rattle.std.proofs.Common.{List, [], ◌∷◌, ◌++◌, ap, ◌∙◌}
use Rattle.rt_tree_walk.proofs.Progress.{IsSettled}
use Rattle.rt_tree_join.specs.declared.due.Subtree.{Subtree}
use Rattle.rt_tree_join.proofs.Within.{starts-empty, starts-root}
use Rattle.rt_tree_join.proofs.itself.first_within.Goals as goal

pub returns-in_default : goal.returns-in_default
returns-in_default g c =
    let s : IsSettled c.args.tree.now = record { whole = c.requires.whole; none = c.requires.settled } in
    starts-empty c.args.tree.now s c.new-nodes.result.items c.in_default.ensures c.new-nodes.ensures.items

pub returns : goal.returns
returns g c =
    let s : IsSettled c.args.tree.now = record { whole = c.requires.whole; none = c.requires.settled } in
    starts-root c.args.tree.now s c.push.new.self.items c.in-Some.root c.in-Some.ensures
    (c.in_ok-push.ensures.items ∙ ap (λ (ns : List (Subtree g.row.D)). ns ++ c.in-Some.root ∷ []) c.new-nodes.ensures.items)
