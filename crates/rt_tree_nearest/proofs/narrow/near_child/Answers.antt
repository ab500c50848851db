use Rattle.std.proofs.Common.{rules, ◌<◌, length, arith, sym}
use lib.Count.{count_trailing_zeros}
use Rattle.rt_tree_walk.proofs.Picked.{picked-first}
use Rattle.rt_tree_nearest.proofs.narrow.near_child.Goals as goal

pub cell-requires : goal.cell-requires
cell-requires g c =
    let some : 0 < c.near_cells-cells.result = omega (arith, c.if-cells-eq0.false) in
    let within : count_trailing_zeros 64 c.near_cells-cells.result < length c.args.node.now.cells =
    (picked-first 64 c.args.node.now.cells c.near_cells-cells.result c.near_cells-cells.ensures.few some c.near_cells-cells.ensures.below).within in
    search rules

pub returns : goal.returns
returns g c =
    let some : 0 < c.near_cells-cells.result = omega (arith, c.if-cells-eq0.false) in
    let first = picked-first 64 c.args.node.now.cells c.near_cells-cells.result c.near_cells-cells.ensures.few some c.near_cells-cells.ensures.below in
    (c.cell.result, (count_trailing_zeros 64 c.near_cells-cells.result, first.within, sym c.cell.ensures), c.key.ensures)
