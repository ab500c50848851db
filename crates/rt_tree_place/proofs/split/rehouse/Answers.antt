use Rattle.std.proofs.Common.{take, IsSome, arith, sym, subst}
use Rattle.std.specs.Ordering.{int_eq}
use Rattle.indexmap.specs.IndexMap.{get as leaf_of}
use Rattle.rt_tree_node.specs.Places.{picked}
use Rattle.rt_tree_place.specs.Steps.{Rehouses}
use Rattle.rt_tree_place.proofs.Adopted.{picked-more, at-picked, rehouses-more}
use Rattle.rt_tree_place.proofs.split.rehouse.Goals as goal

pub set_leaf-requires : goal.set_leaf-requires
set_leaf-requires g c =
    c.loop-at.invariant.known c.cell-cell.result.number
    (at-picked (λ q. IsSome (leaf_of int_eq c.args.leaves.now q.number)) c.args.from.now.cells c.args.positions.now c.loop-at.at-index c.cell-cell.result (omega arith)
    c.requires.within c.cell-cell.ensures c.requires.known)

pub loop-at-preserved : goal.loop-at-preserved
loop-at-preserved g c =
    subst (λ cs. Rehouses c.args.leaves.now c.set_leaf.new.leaves c.args.leaf cs)
    (sym (picked-more c.args.from.now.cells c.args.positions.now c.loop-at.at-index c.cell-cell.result (omega arith) c.requires.within c.cell-cell.ensures))
    (rehouses-more c.args.leaves.now c.loop-at.leaves c.set_leaf.new.leaves c.args.leaf (picked c.args.from.now.cells (take c.loop-at.at-index c.args.positions.now)) c.cell-cell.result
    c.loop-at.invariant c.set_leaf.ensures)
