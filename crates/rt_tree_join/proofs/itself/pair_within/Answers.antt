use Rattle.std.proofs.Common.{◌≡◌, ◌+◌, ◌<◌, List, [], ◌∷◌, ◌++◌, drop, length, arith, append_assoc, append-nil, refl, ap, sym, ◌∙◌}
use Rattle.rt_tree_node.specs.declared.cell.Cell.{Cell}
use Rattle.rt_tree_join.specs.declared.joining.Pair.{Pair}
use Rattle.rt_tree_join.specs.declared.due.Side.TheVariants.{Left}
use Rattle.rt_tree_join.specs.Due.{pairs_of_row}
use Rattle.rt_tree_join.specs.Itself.{later_pairs}
use Rattle.rt_tree_join.proofs.Later.{drop-next, drop-past}
use Rattle.rt_tree_join.proofs.itself.pair_within.Goals as goal

pub loop-at-init : goal.loop-at-init
loop-at-init g c = refl

pub loop-at-preserved : goal.loop-at-preserved
loop-at-preserved g c =
    let cells = c.args.leaf.now.cells in
    let at = c.loop-at.at in
    let row = c.cell-row.result in
    let old = c.loop-at.pairs.items in
    let within : at < length cells = omega (arith, c.loop-at-test.true, c.len-at-end.ensures) in
    let next : drop at cells ≡ row ∷ drop (at + 1) cells = drop-next cells at row within c.cell-row.ensures in
    let own = pairs_of_row Left (drop (at + 1) cells) row in
    ap (λ (ps : List Pair). ps ++ later_pairs (drop (at + 1) cells)) c.in_ok-pair_row.ensures
    ∙ append_assoc old own (later_pairs (drop (at + 1) cells))
    ∙ ap (λ (cs : List (Cell g.row.D)). old ++ later_pairs cs) (sym next) ∙ c.loop-at.invariant

pub returns : goal.returns
returns g c =
    let cells = c.args.leaf.now.cells in
    let none : drop c.loop-at.at cells ≡ [] = drop-past cells c.loop-at.at (omega (arith, c.loop-at-test.false, c.len-at-end.ensures)) in
    sym (append-nil c.loop-at.pairs.items) ∙ ap (λ (cs : List (Cell g.row.D)). c.loop-at.pairs.items ++ later_pairs cs) (sym none) ∙ c.loop-at.invariant
