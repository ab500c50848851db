use Rattle.std.proofs.Common.{◌<◌, length, vec_len, ap, ◌∙◌, arith}
use Rattle.std.proofs.lemmas.List.{length-take}
use Rattle.rt_tree_remove.specs.Steps.{SettlesInTurn}
use Rattle.rt_tree_remove.proofs.Placed.{some-wait, placed-none}
use Rattle.rt_tree_remove.proofs.place.place_pending.Goals as goal

pub loop-tree-init : goal.loop-tree-init
loop-tree-init g c = placed-none c.args.tree.now c.requires.whole

pub loop-tree-preserved : goal.loop-tree-preserved
loop-tree-preserved g c =
    let p = c.loop-tree.invariant in
    let s = c.settle.ensures.settles in
    let some : 0 < vec_len c.loop-tree.tree.pending = some-wait (vec_len c.loop-tree.tree.pending) c.is_empty.result c.is_empty.ensures c.loop-tree-test.true in
    record {
      whole = s.whole;
      rows = λ test. s.rows test ∙ p.rows test;
      ids = record { ids = s.ids.ids ∙ p.ids.ids; len = s.ids.len ∙ p.ids.len; room = s.ids.room ∙ p.ids.room };
      capacity = s.capacity ∙ p.capacity;
      room = s.room ∙ p.room;
      pending_room = omega (arith, s.pending_room, p.pending_room);
      fewer = omega (arith, ap (λ ws. length ws) s.pending ∙ length-take _ c.loop-tree.tree.pending.items, p.fewer);
      branched = λ h. s.branched (p.branched h);
      still = λ none. absurd (omega (arith, p.fewer, some, none));
      turns = SettlesInTurn.next p.turns (omega (arith, c.len-base.ensures, some)) c.settle.ensures.turns.1 s.pending;
    }
