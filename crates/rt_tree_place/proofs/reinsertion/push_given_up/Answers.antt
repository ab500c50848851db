use Rattle.std.proofs.Common.{ℕ, [], ◌∷◌, ◌++◌, append_assoc, length, arith, ap, ◌∙◌, sym}
use Rattle.rt_tree_node.specs.declared.cell.Pending.{Pending}
use Rattle.rt_tree_place.proofs.Positions.{waits-more}
use Rattle.rt_tree_place.proofs.reinsertion.push_given_up.Goals as goal

pub loop-back-preserved : goal.loop-back-preserved
loop-back-preserved g c =
    let inv = c.loop-back.invariant in
    let items = c.push_reserved.ensures.items in
    let at : ℕ → Pending g.row.D = λ l. record { level = l; cell = c.cell-cell.result } in
    let more = waits-more c.args.from.now.cells c.args.positions.now c.args.from.now.level c.loop-back.back c.cell-cell.result c.loop-back-test.true c.requires.within c.cell-cell.ensures in
    record {
      items = items ∙ ap (λ l. c.loop-back.pending.items ++ at l ∷ []) c.level-level.ensures ∙ ap (λ ws. ws ++ at c.args.from.now.level ∷ []) inv.items
          ∙ append_assoc c.args.pending.now.items _ (at c.args.from.now.level ∷ []) ∙ ap (λ ws. c.args.pending.now.items ++ ws) (sym more);
      room = omega (arith, inv.room, c.push_reserved.ensures.capacity, ap length items, c.loop-back-test.true);
      stays = c.push_reserved.ensures.capacity ∙ inv.stays;
    }
