use Rattle.std.proofs.Common.{ℕ, ◌+◌, List, ap, ◌∙◌}
use Rattle.std.specs.List.{count_by}
use Rattle.std.proofs.lemmas.Result.{on_ok_weaker}
use Rattle.rt_tree_node.specs.declared.cell.Cell.{Cell}
use Rattle.rt_tree_node.proofs.Counts.{count-append}
use Rattle.rt_tree_walk.specs.Visits.{picked}
use Rattle.rt_tree_join.specs.declared.due.Side.TheVariants.{Left, Right}
use Rattle.rt_tree_join.specs.Due.{pairs_of_rows}
use Rattle.rt_tree_join.proofs.Counting.{left-counted, right-counted}
use Rattle.rt_tree_join.proofs.joining.pair_leaves.Goals as goal

pub returns-then-rows-others : goal.returns-then-rows-others
returns-then-rows-others g c =
    let left = c.args.left.now.cells in
    let right = c.args.right.now.cells in
    let old = c.args.pairs.now.items in
    let bits = c.touching_cells-rows in
    on_ok_weaker c.pair_rows.result
    (λ is test.
    ap (count_by test) is ∙ count-append test old (pairs_of_rows Left right (picked left bits.result))
    ∙ ap (λ (cs : List (Cell g.row.D)). count_by test old + count_by test (pairs_of_rows Left right cs)) bits.ensures.cells
    ∙ ap (λ (n : ℕ). count_by test old + n) (left-counted test c.args.right_rect.now left right c.requires.right))
    c.pair_rows.ensures

pub returns : goal.returns
returns g c =
    let left = c.args.left.now.cells in
    let right = c.args.right.now.cells in
    let old = c.args.pairs.now.items in
    let bits = c.touching_cells-others in
    on_ok_weaker c.pair_rows-2.result
    (λ is test.
    ap (count_by test) is ∙ count-append test old (pairs_of_rows Right left (picked right bits.result))
    ∙ ap (λ (cs : List (Cell g.row.D)). count_by test old + count_by test (pairs_of_rows Right left cs)) bits.ensures.cells
    ∙ ap (λ (n : ℕ). count_by test old + n) (right-counted test c.args.left_rect.now left right c.requires.left))
    c.pair_rows-2.ensures
