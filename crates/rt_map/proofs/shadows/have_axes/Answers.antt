use Rattle.std.proofs.Common.{◌≡◌, ◌+◌, ◌<◌, ◌∷◌, ◌++◌, List, [], take, length, arith, ap, ◌∙◌, sym, subst}
use Rattle.std.specs.List.{All}
use Rattle.std.proofs.lemmas.List.{take_more, take_all}
use Rattle.std.proofs.lemmas.List.Elements.{All-push}
use Rattle.rt_check.specs.declared.node.RawCell.{RawCell}
use Rattle.rt_map.proofs.shadows.have_axes.Goals as goal

pub loop-cell-preserved : goal.loop-cell-preserved
loop-cell-preserved g c =
    let P : RawCell g.row.D → Type 0 = λ x. (length x.lo ≡ g.row.D) × (length x.hi ≡ g.row.D) in
    let cells = c.as_slice-cell-items.result.now in
    let cell = c.cell-item.result in
    let i = c.loop-cell.cell-index in
    let before : All P (take i cells) = subst (λ (xs : List (RawCell g.row.D)). All P (take i xs)) (sym c.as_slice-cell-items.ensures) c.loop-cell.invariant in
    let next : take (i + 1) cells ≡ take i cells ++ cell ∷ [] =
    take_more cells i cell c.loop-cell-test.true ∙ ap (λ (x : RawCell g.row.D). take i cells ++ x ∷ []) (sym c.cell-item.is) in
    subst (λ (xs : List (RawCell g.row.D)). All P (take (i + 1) xs)) c.as_slice-cell-items.ensures
    (subst (All P) (sym next) (All-push P (take i cells) cell before (c.axes.ensures.lo, c.axes.ensures.hi)))

pub returns : goal.returns
returns g c =
    let P : RawCell g.row.D → Type 0 = λ x. (length x.lo ≡ g.row.D) × (length x.hi ≡ g.row.D) in
    let cells = c.args.node.now.cells in
    let all : take c.loop-cell.cell-index cells ≡ cells = take_all c.loop-cell.cell-index cells (omega (arith, c.loop-cell-test.false, ap length c.as_slice-cell-items.ensures)) in
    subst (All P) all c.loop-cell.invariant
