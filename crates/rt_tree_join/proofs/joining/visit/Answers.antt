use Rattle.std.proofs.Common.{◌≡◌, suc, ◌-◌, arith, rules}
use Rattle.std.proofs.lemmas.Result.{on_ok_weaker}
use Rattle.rt_tree_walk.proofs.Progress.{IsSettled}
use Rattle.rt_tree_join.specs.Due.{AreHeld}
use Rattle.rt_tree_join.proofs.Below.{goes-left, goes-right, goes-leaves, held-left, held-right}
use Rattle.rt_tree_join.proofs.joining.visit.Goals as goal

pub returns-then-next : goal.returns-then-next
returns-then-next g c =
    let t = c.args.left.now in
    let u = c.args.right.now in
    let s : IsSettled t = record { whole = c.requires.left_whole; none = c.requires.left_settled } in
    let v : IsSettled u = record { whole = c.requires.right_whole; none = c.requires.right_settled } in
    let next = c.args.next.now in
    let high : next.right.level ≡ suc (next.right.level - 1) = omega (arith, c.if-next.true) in
    on_ok_weaker c.open.result
    (goes-right t u s v next c.requires.due (next.right.level - 1) c.node_at-node.result.now c.node_at-node.ensures high c.args.pairs.now.items c.args.due.now.items c.open.new.due.items)
    c.open.ensures

pub returns-then-next-gt0 : goal.returns-then-next-gt0
returns-then-next-gt0 g c =
    let t = c.args.left.now in
    let u = c.args.right.now in
    let s : IsSettled t = record { whole = c.requires.left_whole; none = c.requires.left_settled } in
    let v : IsSettled u = record { whole = c.requires.right_whole; none = c.requires.right_settled } in
    let next = c.args.next.now in
    let high : next.left.level ≡ suc (next.left.level - 1) = omega (arith, c.if-next-gt0.true) in
    on_ok_weaker c.open-then-next-gt0.result
    (goes-left t u s v next c.requires.due (next.left.level - 1) c.node_at-node-2.result.now c.node_at-node-2.ensures high c.args.pairs.now.items c.args.due.now.items c.open-then-next-gt0.new.due.items)
    c.open-then-next-gt0.ensures

pub returns : goal.returns
returns g c =
    let t = c.args.left.now in
    let u = c.args.right.now in
    let s : IsSettled t = record { whole = c.requires.left_whole; none = c.requires.left_settled } in
    let v : IsSettled u = record { whole = c.requires.right_whole; none = c.requires.right_settled } in
    let next = c.args.next.now in
    let low : next.left.level ≡ 0 = omega (arith, c.if-next-gt0.false) in
    let low_other : next.right.level ≡ 0 = omega (arith, c.if-next-gt0.false, c.if-next.false) in
    let node = c.node_at-node-2 in
    let other = c.node_at-other in
    on_ok_weaker c.pair_leaves.result
    (goes-leaves t u s v next c.requires.due node.result.now other.result.now node.ensures other.ensures low low_other c.args.pairs.now.items c.pair_leaves.new.pairs.items c.args.due.now.items)
    c.pair_leaves.ensures

pub pair_leaves-requires : goal.pair_leaves-requires
pair_leaves-requires g c =
    let t = c.args.left.now in
    let u = c.args.right.now in
    let s : IsSettled t = record { whole = c.requires.left_whole; none = c.requires.left_settled } in
    let v : IsSettled u = record { whole = c.requires.right_whole; none = c.requires.right_settled } in
    let next = c.args.next.now in
    let low : next.left.level ≡ 0 = omega (arith, c.if-next-gt0.false) in
    let low_other : next.right.level ≡ 0 = omega (arith, c.if-next-gt0.false, c.if-next.false) in
    let left : AreHeld next.left.rect c.node_at-node-2.result.now.cells =
    held-left t u s v next c.requires.due c.node_at-node-2.result.now c.node_at-other.result.now c.node_at-node-2.ensures c.node_at-other.ensures low low_other in
    let right : AreHeld next.right.rect c.node_at-other.result.now.cells =
    held-right t u s v next c.requires.due c.node_at-node-2.result.now c.node_at-other.result.now c.node_at-node-2.ensures c.node_at-other.ensures low low_other in
    search rules
