use Rattle.std.proofs.Common.{List, ap, ◌∙◌}
use Rattle.rt_box.specs.declared.interval.Interval.{Interval}
use Rattle.rt_tree_walk.specs.declared.searching.Row.{Row}
use Rattle.rt_tree.proofs.Boxed.{ordered-zip, box-back}
use Rattle.rt_map.proofs.shadows.cell_row.Goals as goal

pub returns-in-Some-clause-row : goal.returns-in-Some-clause-row
returns-in-Some-clause-row g c =
    let with_box : List Interval → Row g.row.D = λ b. record { id = c.args.cell.now.number; rect = b } in
    c.row_with.ensures ∙ ap with_box (box-back c.args.cell.now c.in-Some.rect c.in-Some.ensures.lo c.in-Some.ensures.hi)

pub returns-in-None-clause-none : goal.returns-in-None-clause-none
returns-in-None-clause-none g c = λ ordered.
    let some = c.in-None.ensures.valid.1 (ordered-zip g.row.D c.args.cell.now.lo c.args.cell.now.hi c.axes.ensures.lo c.axes.ensures.hi ordered) in cc
