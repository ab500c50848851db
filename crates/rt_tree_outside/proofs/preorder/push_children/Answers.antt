use Rattle.std.proofs.Common.{ℕ, ◌++◌, [], ◌∷◌, ◌-◌, arith, ap, ◌∙◌}
use Rattle.rt_tree_walk.proofs.Due.{pushed-more}
use Rattle.rt_tree_outside.proofs.preorder.push_children.Goals as goal

pub loop-back-preserved : goal.loop-back-preserved
loop-back-preserved g c =
    let cells = c.args.node.now.cells in
    pushed-more cells c.loop-back.back (c.len-count.result - 1 - c.loop-back.back) c.cell.result c.args.keys.now.items c.loop-back.keys.items c.push.new.self.items
    c.loop-back.invariant (omega (arith, c.loop-back-test.true, c.len-count.ensures.value)) (ap (λ n. n - 1 - c.loop-back.back) c.len-count.ensures.value) c.cell.ensures
    (c.in_ok-push.ensures.items ∙ ap (λ (k : ℕ). c.loop-back.keys.items ++ k ∷ []) c.key.ensures)
