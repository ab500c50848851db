use Rattle.std.proofs.Common.{◌≡◌, ℕ, ◌++◌, ◌∷◌, [], Bool, true, false, sym, ◌∙◌, ap, arith, length, get_or, min, ◌<◌, ◌+◌, drop, pos}
use Rattle.rt_check.specs.declared.problem.Problem.{Problem}
use Rattle.rt_check.specs.declared.problem.Condition.TheVariants.{HasCell}
use Rattle.rt_check.specs.declared.node.RowEntry.{RowEntry}
use Rattle.rt_check.specs.Conditions.{has_cell, times_named, leaf_cells, failing, numbered}
use Rattle.rt_check.proofs.Tallies.{tallies-at, tally-one, tally-other}
use Rattle.rt_check.proofs.Listing.{numbered-passes, numbered-fails, numbered-ends}
use Rattle.rt_check.proofs.checker.list_rows.Goals as goal

pub loop-index-preserved-then-named-index-eq1 : goal.loop-index-preserved-then-named-index-eq1
loop-index-preserved-then-named-index-eq1 g c =
    let rows = c.args.shadow.now.rows in
    let cells = leaf_cells c.args.shadow.now.nodes in
    let d : RowEntry = record { id = pos 0; leaf = pos 0 } in
    let i = c.loop-index.index in
    let test : RowEntry → Bool = has_cell c.args.shadow.now in
    let entry : ℕ → RowEntry → Problem = λ n row. record { condition = HasCell; node = row.leaf; position = n } in
    let same : length c.rows-row-items.result.now ≡ length rows = ap length c.rows-row-items.ensures.value in
    let within : i < length rows = omega (arith, same, c.loop-index-test.true) in
    let counted : get_or c.args.named.now i 0 ≡ min 2 (times_named (get_or rows i d).id cells) =
    ap (λ l. get_or l i 0) c.requires ∙ tallies-at (λ (r : RowEntry). r.id) rows cells i d within in
    let passes : test (get_or rows i d) ≡ true = tally-one _ _ counted c.if-named-index-eq1.true in
    numbered-passes test entry _ _ rows i d within passes c.loop-index.invariant

pub loop-index-preserved : goal.loop-index-preserved
loop-index-preserved g c =
    let rows = c.args.shadow.now.rows in
    let cells = leaf_cells c.args.shadow.now.nodes in
    let d : RowEntry = record { id = pos 0; leaf = pos 0 } in
    let i = c.loop-index.index in
    let test : RowEntry → Bool = has_cell c.args.shadow.now in
    let entry : ℕ → RowEntry → Problem = λ n row. record { condition = HasCell; node = row.leaf; position = n } in
    let this : get_or rows i d ≡ get_or c.rows-row-items.result.now i d = ap (λ l. get_or l i d) (sym c.rows-row-items.ensures.value) in
    let same : length c.rows-row-items.result.now ≡ length rows = ap length c.rows-row-items.ensures.value in
    let within : i < length rows = omega (arith, same, c.loop-index-test.true) in
    let counted : get_or c.args.named.now i 0 ≡ min 2 (times_named (get_or rows i d).id cells) =
    ap (λ l. get_or l i 0) c.requires ∙ tallies-at (λ (r : RowEntry). r.id) rows cells i d within in
    let fails : test (get_or rows i d) ≡ false = tally-other _ _ counted c.if-named-index-eq1.false in
    let added : c.push.new.self.items ≡ c.loop-index.problems.items ++ entry (i + 1) (get_or rows i d) ∷ [] =
    c.in_ok-push.ensures.items ∙ ap (λ p. c.loop-index.problems.items ++ p ∷ []) (c.row_problem.ensures ∙ ap (entry (i + 1)) (sym this)) in
    ap (λ l. l ++ failing (λ p. test p.1) (λ p. entry p.0 p.1) (drop (i + 1) (numbered rows))) added
    ∙ numbered-fails test entry _ _ rows i d within fails c.loop-index.invariant

pub returns : goal.returns
returns g c =
    let rows = c.args.shadow.now.rows in
    let test : RowEntry → Bool = has_cell c.args.shadow.now in
    let entry : ℕ → RowEntry → Problem = λ n row. record { condition = HasCell; node = row.leaf; position = n } in
    let same : length c.rows-row-items.result.now ≡ length rows = ap length c.rows-row-items.ensures.value in
    let ended : c.loop-index.index ≡ length rows = omega (arith, same, c.loop-index-test.false, c.loop-index.auto.index-end) in
    numbered-ends test entry _ _ rows c.loop-index.index ended c.loop-index.invariant
