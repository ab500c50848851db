use Rattle.std.proofs.Common.{◌+◌, ◌-◌, ◌*◌}
use Rattle.rt_check_draw.specs.Boxes.{hue_of}
use Rattle.rt_check_draw.specs.Legend.{line_at, percent_of, row_start, row_counts, row_shares}
use Rattle.rt_check_draw.proofs.Drawn.{three_joined}
use Rattle.rt_check_draw.proofs.legend.add_row.Goals as goal

pub returns : goal.returns
returns c =
    let row = c.args.row.now in
    three_joined _ _ _ _ _ (row_start (hue_of row.level) (line_at (1 + (c.args.top - row.level)))) (row_counts row)
    (row_shares (percent_of row.cells (row.nodes * c.args.capacity)) (percent_of row.shared row.area))
    (rw (c.hue_of-hue.ensures, c.line_of-y.ensures) at c.in_ok-add_row_start.ensures) c.in_ok-add_row_counts.ensures
    (rw (c.fill_of-fill.ensures, c.percent_of-overlap.ensures) at c.add_row_shares.ensures)
