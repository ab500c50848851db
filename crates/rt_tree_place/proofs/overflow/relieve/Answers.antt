use Rattle.std.proofs.Common.{◌≡◌, ◌+◌, length, arith, refl, ap}
use Rattle.rt_tree_node.specs.Places.{cells_of, cells_at}
use Rattle.rt_tree_place.proofs.Relieved.{relieved-given_up, treats-given_up}
use Rattle.rt_tree_place.proofs.overflow.relieve.Goals as goal

pub returns-clause-relieves : goal.returns-clause-relieves
returns-clause-relieves g c =
    let old = c.args.tree.now in
    let node = c.node_at-node.result.now in
    let has = c.node_at-node.ensures in
    let count = ap (λ s. length (cells_of s)) has in
    let full : length (cells_at old.nodes c.args.key) ≡ old.capacity + 1 =
    omega (arith, count, c.requires.most, c.if-len-greatest.false, c.len-len.ensures.value, c.greatest.ensures.value) in
    relieved-given_up old c.reinsert.new.tree c.args.key c.args.parent c.requires.pair node has full (c.reinsert.ensures node has)

pub returns-clause-treats : goal.returns-clause-treats
returns-clause-treats g c =
    let old = c.args.tree.now in
    let node = c.node_at-node.result.now in
    let has = c.node_at-node.ensures in
    let count = ap (λ s. length (cells_of s)) has in
    treats-given_up old c.args.key c.args.parent c.requires.pair c.reinsert.new.tree node c.args.marks.now (c.level-level.result + 1) c.args.work.now _ has
    (omega (arith, count, c.if-len-greatest.false, c.len-len.ensures.value, c.greatest.ensures.value))
    (omega (arith, c.if-level-marks.false, c.level-level.ensures)) (omega (arith, c.level-level.ensures)) (c.reinsert.ensures node has)
    refl refl (omega arith)
