use Rattle.std.proofs.Common.{◌≡◌, ◌∙◌, ap, sym, length, get_or, ◌<◌, arith}
use Rattle.rt_check_draw.specs.Boxes.{box_line}
use Rattle.rt_check_draw.proofs.Drawn.{appended_as}
use Rattle.rt_check_draw.proofs.boxes.add_boxes.Goals as goal

pub loop-cell-preserved : goal.loop-cell-preserved
loop-cell-preserved g c =
    let items = c.args.node.now.cells in
    let i = c.loop-cell.cell-index in
    let d = c.cell-item.result in
    let this : get_or items i d ≡ d = ap (λ l. get_or l c.loop-cell.cell-index c.cell-item.result) (sym c.as_slice-cell-items.ensures) ∙ sym c.cell-item.is in
    let same : length c.as_slice-cell-items.result.now ≡ length items = ap length c.as_slice-cell-items.ensures in
    let within : i < length items = omega (arith, same, c.loop-cell-test.true) in
    appended_as (box_line c.args.title.now c.args.frame.now c.args.node.now.level) _ _ _ items i d d within this c.loop-cell.invariant c.in_ok-add_box.ensures
