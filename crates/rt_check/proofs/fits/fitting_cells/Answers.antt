use Rattle.std.proofs.Common.{List, sym, subst, arith, get_or}
use Rattle.rt_check.specs.declared.node.RawCell.{RawCell}
use Rattle.rt_check.specs.declared.node.NodeRow.{NodeRow}
use Rattle.rt_check.specs.Fits.{Fits, AllFit}
use Rattle.rt_check.proofs.Hulls.{fits-more}
use Rattle.rt_check.proofs.fits.fitting_cells.Goals as goal

pub loop-node-preserved : goal.loop-node-preserved
loop-node-preserved g c =
    let nodes = c.args.nodes.now in
    let i = c.loop-node.node-index in
    let d = c.node-item.result in
    let one : Fits (get_or nodes i d).cells c.fitting_cell.result =
    subst (λ (n : NodeRow g.row.D). Fits n.cells c.fitting_cell.result) c.node-item.is
    (subst (λ (cells : List (RawCell g.row.D)). Fits cells c.fitting_cell.result) c.as_slice.ensures c.fitting_cell.ensures) in
    subst (AllFit _) (sym c.in_ok-push.ensures.items)
    (fits-more nodes c.loop-node.fits.items i d c.fitting_cell.result (omega (arith, c.loop-node-test.true)) c.loop-node.invariant one)
