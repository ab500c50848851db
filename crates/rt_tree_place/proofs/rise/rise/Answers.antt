use Rattle.std.proofs.Common.{◌≡◌, ◌+◌, ◌^◌, ◌<◌, ◌≤◌, Some, length, vec_len, vec_capacity, arith, rules, ap, sym, subst, ◌∙◌, inl, inr}
use Rattle.slab.specs.Slab.{HasRoomFor}
use Rattle.rt_tree_node.specs.Places.{cells_at, parent_at, parent_of}
use Rattle.rt_tree_place.specs.Rise.{ClimbsTo, HasRisen}
use Rattle.rt_tree_place.specs.Steps.{IsRising}
use Rattle.rt_tree_place.proofs.Risen.{risen-start, risen-more, ends-at_root, room-left, pending-room_left, reinsertions-few}
use Rattle.rt_tree_place.proofs.Rested.{risen-rests}
use Rattle.rt_tree_place.proofs.rise.rise.Goals as goal

pub loop-parent-init : goal.loop-parent-init
loop-parent-init g c = record {
  risen = risen-start c.args.tree.now c.args.from c.args.marks.now c.args.work.now c.requires.rising;
  steps = ClimbsTo.none;
}

pub returns-then-is_settled-clause-risen : goal.returns-then-is_settled-clause-risen
returns-then-is_settled-clause-risen g c =
    let t = c.args.tree.now in
    let rests = c.is_settled.ensures c.if-is_settled.true in
    risen-rests t t c.args.from c.args.from rests.0 c.args.marks.now c.args.marks.now c.args.work.now c.args.work.now
    (risen-start t c.args.from c.args.marks.now c.args.work.now c.requires.rising) rests.1 rests.2

pub returns-then-is_settled-clause-ascends : goal.returns-then-is_settled-clause-ascends
returns-then-is_settled-clause-ascends g c =
    record { last = c.args.from; steps = ClimbsTo.none; ends = inr (c.is_settled.ensures c.if-is_settled.true) }

pub lift-requires : goal.lift-requires
lift-requires g c =
    let s = c.args.tree.now in
    let t = c.loop-parent.tree in
    let so_far = c.loop-parent.invariant.risen in
    let few = c.requires.few in
    let rising : IsRising t c.loop-parent.key = so_far.rising in
    let up : parent_at t.nodes c.loop-parent.key ≡ Some c.in-Some.parent = ap parent_of c.node_at.ensures ∙ sym c.parent.ensures ∙ c.in-Some.is in
    let left = room-left s t c.args.from c.loop-parent.key c.in-Some.parent c.args.marks.now c.loop-parent.marks c.args.work.now c.loop-parent.work so_far up c.requires.height c.requires.room in
    let room : HasRoomFor t.nodes 1 = left.0 in
    let keys : t.nodes.capacity ≤ 2 ^ 62 = omega (arith, so_far.keeps.room, c.requires.keys) in
    let height : t.level ≤ 30 = left.2 in
    let pending_room : t.capacity < length (cells_at t.nodes c.loop-parent.key) → vec_len t.pending + 15 ≤ vec_capacity t.pending = λ full.
    omega (
      arith,
      t.pending.ok.0,
      pending-room_left s t c.args.from c.loop-parent.key c.args.marks.now c.loop-parent.marks c.args.work.now c.loop-parent.work so_far
          (omega (arith, s.pending.ok.0, c.requires.pending_room)) full,
    ) in
    let splits : c.loop-parent.work.splits + 1 < 2 ^ 32 = omega (arith, left.1, c.requires.splits) in
    let reinsertions : c.loop-parent.work.reinsertions + 1 < 2 ^ 32 =
    omega (arith, reinsertions-few s t c.args.from c.loop-parent.key c.args.marks.now c.loop-parent.marks c.args.work.now c.loop-parent.work so_far, c.requires.reinsertions) in
    search rules

pub loop-parent-preserved : goal.loop-parent-preserved
loop-parent-preserved g c =
    let up = ap parent_of c.node_at.ensures ∙ sym c.parent.ensures ∙ c.in-Some.is in
    record {
      risen = risen-more c.args.tree.now c.loop-parent.tree c.lift.new.tree c.args.from c.loop-parent.key c.in-Some.parent c.args.marks.now c.loop-parent.marks c.lift.new.marks
          c.args.work.now c.loop-parent.work c.lift.new.work c.loop-parent.invariant.risen up c.lift.ensures;
      steps = ClimbsTo.step c.loop-parent.invariant.steps c.lift.ensures;
    }

pub returns-then-is_relieved-clause-risen : goal.returns-then-is_relieved-clause-risen
returns-then-is_relieved-clause-risen g c =
    risen-rests c.args.tree.now c.loop-parent.tree c.args.from c.loop-parent.key c.in-Some.parent c.args.marks.now c.loop-parent.marks c.args.work.now c.loop-parent.work
    c.loop-parent.invariant.risen (ap parent_of c.node_at.ensures ∙ sym c.parent.ensures ∙ c.in-Some.is) (c.is_relieved.ensures c.if-is_relieved.true)

pub returns-then-is_relieved-clause-ascends : goal.returns-then-is_relieved-clause-ascends
returns-then-is_relieved-clause-ascends g c = record {
  last = c.loop-parent.key;
  steps = c.loop-parent.invariant.steps;
  ends = inr (c.in-Some.parent, ap parent_of c.node_at.ensures ∙ sym c.parent.ensures ∙ c.in-Some.is, c.is_relieved.ensures c.if-is_relieved.true);
}

pub returns-clause-risen : goal.returns-clause-risen
returns-clause-risen g c =
    let t = c.loop-parent.tree in
    subst (λ k. HasRisen c.args.tree.now t c.args.from k c.args.marks.now c.loop-parent.marks c.args.work.now c.loop-parent.work)
    (ends-at_root t c.loop-parent.key c.loop-parent.invariant.risen.rising (ap parent_of c.node_at.ensures ∙ sym c.parent.ensures ∙ c.in_default.is)) c.loop-parent.invariant.risen

pub returns-clause-ascends : goal.returns-clause-ascends
returns-clause-ascends g c =
    let t = c.loop-parent.tree in
    record {
      last = c.loop-parent.key;
      steps = c.loop-parent.invariant.steps;
      ends = inl (ends-at_root t c.loop-parent.key c.loop-parent.invariant.risen.rising (ap parent_of c.node_at.ensures ∙ sym c.parent.ensures ∙ c.in_default.is));
    }
