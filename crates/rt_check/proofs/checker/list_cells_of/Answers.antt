use Rattle.std.proofs.Common.{◌≡◌, ℕ, ◌++◌, ◌∷◌, [], Bool, sym, ◌∙◌, ap, arith, length, get_or, ◌<◌, ◌+◌, drop}
use Rattle.rt_check.specs.declared.problem.Problem.{Problem}
use Rattle.rt_check.specs.declared.node.RawCell.{RawCell}
use Rattle.rt_check.specs.Conditions.{failing, numbered}
use Rattle.rt_check.specs.ProblemLists.{condition_of, meets_condition}
use Rattle.rt_check.proofs.Listing.{numbered-passes, numbered-fails, numbered-ends}
use Rattle.rt_check.proofs.checker.list_cells_of.Goals as goal

pub loop-index-preserved-then-meets : goal.loop-index-preserved-then-meets
loop-index-preserved-then-meets g c =
    let cells = c.args.node.now.cells in
    let test : RawCell g.row.D → Bool = meets_condition c.args.shadow.now c.args.condition c.args.node.now in
    let entry : ℕ → RawCell g.row.D → Problem = λ n _. record { condition = condition_of c.args.condition; node = c.args.node.now.number; position = n } in
    let this : get_or cells c.loop-index.index c.cell-item.result ≡ c.cell-item.result =
    ap (λ l. get_or l c.loop-index.index c.cell-item.result) (sym c.as_slice-cell-items.ensures) ∙ sym c.cell-item.is in
    let same : length c.as_slice-cell-items.result.now ≡ length cells = ap length c.as_slice-cell-items.ensures in
    let within : c.loop-index.index < length cells = omega (arith, same, c.loop-index-test.true) in
    numbered-passes test entry _ _ cells c.loop-index.index c.cell-item.result within
    (ap test this ∙ sym c.if-meets.ensures) c.loop-index.invariant

pub loop-index-preserved : goal.loop-index-preserved
loop-index-preserved g c =
    let cells = c.args.node.now.cells in
    let test : RawCell g.row.D → Bool = meets_condition c.args.shadow.now c.args.condition c.args.node.now in
    let entry : ℕ → RawCell g.row.D → Problem = λ n _. record { condition = condition_of c.args.condition; node = c.args.node.now.number; position = n } in
    let this : get_or cells c.loop-index.index c.cell-item.result ≡ c.cell-item.result =
    ap (λ l. get_or l c.loop-index.index c.cell-item.result) (sym c.as_slice-cell-items.ensures) ∙ sym c.cell-item.is in
    let same : length c.as_slice-cell-items.result.now ≡ length cells = ap length c.as_slice-cell-items.ensures in
    let within : c.loop-index.index < length cells = omega (arith, same, c.loop-index-test.true) in
    let added : c.push.new.self.items ≡ c.loop-index.problems.items ++ entry (c.loop-index.index + 1) (get_or cells c.loop-index.index c.cell-item.result) ∷ [] =
    c.in_ok-push.ensures.items ∙ ap (λ p. c.loop-index.problems.items ++ p ∷ [])
    (c.node_problem.ensures ∙ ap (λ k. record { condition = k; node = c.args.node.now.number; position = c.loop-index.index + 1 }) c.condition.ensures) in
    ap (λ l. l ++ failing (λ p. test p.1) (λ p. entry p.0 p.1) (drop (c.loop-index.index + 1) (numbered cells))) added
    ∙ numbered-fails test entry _ _ cells c.loop-index.index c.cell-item.result within
    (ap test this ∙ sym c.if-meets.ensures) c.loop-index.invariant

pub returns : goal.returns
returns g c =
    let cells = c.args.node.now.cells in
    let test : RawCell g.row.D → Bool = meets_condition c.args.shadow.now c.args.condition c.args.node.now in
    let entry : ℕ → RawCell g.row.D → Problem = λ n _. record { condition = condition_of c.args.condition; node = c.args.node.now.number; position = n } in
    let same : length c.as_slice-cell-items.result.now ≡ length cells = ap length c.as_slice-cell-items.ensures in
    let ended : c.loop-index.index ≡ length cells = omega (arith, same, c.loop-index-test.false, c.loop-index.auto.index-end) in
    numbered-ends test entry _ _ cells c.loop-index.index ended c.loop-index.invariant
