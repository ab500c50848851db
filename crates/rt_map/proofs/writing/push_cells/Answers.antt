use Rattle.std.proofs.Common.{◌≡◌, ◌<◌, List, length, map, get_or, arith, ap, ◌∙◌, subst}
use Rattle.std.specs.Prelude.{All}
use Rattle.std.proofs.lemmas.Grind.{common_steps}
use Rattle.std.proofs.lemmas.List.{take_all}
use Rattle.rt_check.specs.declared.node.RawCell.{RawCell}
use Rattle.rt_tree_node.specs.declared.cell.Cell.{Cell}
use Rattle.rt_tree_outside.specs.Outside.{noted, cell_row}
use Rattle.rt_map.specs.Written.{IsCellWritten}
use Rattle.rt_map.proofs.Written.{all-mapped-more}
use Rattle.rt_map.proofs.writing.push_cells.Goals as goal

pub loop-at-preserved : goal.loop-at-preserved
loop-at-preserved g c =
    let seen : Cell g.row.D → RawCell g.row.D = cell_row (noted c.args.numbers.now) c.args.node.now.level in
    let cells = c.args.node.now.cells in
    let at = c.loop-at.at in
    let within : at < length cells = omega (arith, c.loop-at-test.true, c.len-at-end.ensures.value) in
    record {
      bytes = grind (arith, common_steps);
      written =
          let is : c.cell_row.result ≡ seen (get_or cells at c.cell.result) =
          c.cell_row.ensures ∙ ap (λ l. cell_row (noted c.args.numbers.now) l c.cell.result) c.level.ensures ∙ ap seen c.cell.ensures in
          all-mapped-more IsCellWritten seen cells at c.cell.result within c.loop-at.invariant.written (subst IsCellWritten is c.in_ok-push_cell.ensures.written);
    }

pub returns-clause-written : goal.returns-clause-written
returns-clause-written g c =
    let seen : Cell g.row.D → RawCell g.row.D = cell_row (noted c.args.numbers.now) c.args.node.now.level in
    subst (λ (cs : List (Cell g.row.D)). All IsCellWritten (map seen cs)) (take_all c.loop-at.at c.args.node.now.cells (omega (arith, c.loop-at-test.false, c.len-at-end.ensures.value)))
    c.loop-at.invariant.written
