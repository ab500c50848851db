use Rattle.std.proofs.Common.{List, [], ◌∷◌, ◌++◌, ap, ◌∙◌}
use Rattle.rt_tree_walk.proofs.Progress.{IsSettled}
use Rattle.rt_tree_join.specs.declared.due.Due.{Due}
use Rattle.rt_tree_join.proofs.Turns.{starts-whole, starts-no_left, starts-no_right}
use Rattle.rt_tree_join.proofs.joining.first_due.Goals as goal

pub returns-in_default : goal.returns-in_default
returns-in_default g c =
    let s : IsSettled c.args.left.now = record { whole = c.requires.left_whole; none = c.requires.left_settled } in
    starts-no_left c.args.left.now c.args.right.now s c.new-due.result.items c.in_default.ensures c.new-due.ensures.items

pub returns-in_default-root : goal.returns-in_default-root
returns-in_default-root g c =
    let v : IsSettled c.args.right.now = record { whole = c.requires.right_whole; none = c.requires.right_settled } in
    starts-no_right c.args.left.now c.args.right.now v c.new-due.result.items c.in_default-root.ensures c.new-due.ensures.items

pub returns : goal.returns
returns g c =
    let s : IsSettled c.args.left.now = record { whole = c.requires.left_whole; none = c.requires.left_settled } in
    let v : IsSettled c.args.right.now = record { whole = c.requires.right_whole; none = c.requires.right_settled } in
    let first : Due g.row.D = record { left = c.in-Some.first; right = c.in-Some-root.second } in
    starts-whole c.args.left.now c.args.right.now s v c.push.new.self.items c.in-Some.first c.in-Some-root.second c.in-Some.ensures c.in-Some-root.ensures
    (c.in_ok-push.ensures.items ∙ ap (λ (ds : List (Due g.row.D)). ds ++ first ∷ []) c.new-due.ensures.items)
