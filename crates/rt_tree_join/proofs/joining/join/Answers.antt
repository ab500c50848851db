use Rattle.std.proofs.Common.{◌≤◌, All, rules}
use Rattle.rt_tree_join.specs.Due.{IsDue}
use Rattle.rt_tree_walk.proofs.Progress.{IsSettled}
use Rattle.rt_tree_join.proofs.Turns.{joins-all}
use Rattle.rt_tree_join.proofs.joining.join.Goals as goal

pub pair_due-requires : goal.pair_due-requires
pair_due-requires g c =
    let few : g.row.D ≤ 3 = c.requires.few in
    let due : All (IsDue c.args.left.now c.args.right.now) c.in_ok-due.due.items = c.in_ok-due.ensures.nodes in
    search rules

pub returns : goal.returns
returns g c =
    let s : IsSettled c.args.left.now = record { whole = c.requires.left_whole; none = c.requires.left_settled } in
    let v : IsSettled c.args.right.now = record { whole = c.requires.right_whole; none = c.requires.right_settled } in
    joins-all c.args.left.now c.args.right.now s v c.in_ok-due.due.items c.new-pairs.result.items c.pair_due.new.pairs.items c.in_ok-due.ensures
    c.new-pairs.ensures.items c.in_ok-pair_due.ensures.pairs
