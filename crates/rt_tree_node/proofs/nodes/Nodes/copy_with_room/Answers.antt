use Rattle.std.proofs.Common.{◌≡◌, ℕ, List, Option, Bool, true, false, length, Contains, refl, ap, ◌∙◌, sym}
use Rattle.slab.specs.Slab.{Slab}
use Rattle.rt_tree_node.specs.Node.{NodeCells}
use Rattle.rt_tree_node.specs.Sums.{sum_at}
use Rattle.rt_tree_node.proofs.Summed.{AddUp-same, AddUp-all, slots-copied}
use Rattle.std.proofs.Math.Bool.{not}
use Rattle.rt_tree_node.proofs.nodes.Nodes.copy_with_room.Goals as goal

not-not : (b : Bool) → not b ≡ false → b ≡ true
not-not true e = refl
not-not false e = sym e

pub invariant_of-result : goal.invariant_of-result
invariant_of-result g c = record {
  few = c.self.invariant.few;
  sums = λ known.
      let old : List (Option (NodeCells g.row.D)) = c.self.inside.slab.slots in
      let stale = c.self.inside.stale.items in
      let right = not-not c.are_right-is_right.result known in
      let slots : c.reserve.new.self.slots ≡ old =
      ap (λ (a : Slab (NodeCells g.row.D)). a.slots) c.reserve.ensures.rest_kept ∙ slots-copied old c.in_ok-slab.slab.slots c.in_ok-slab.ensures.cases.slots in
      let sums : (k : ℕ) → sum_at c.in_ok-sums.sums.items k ≡ sum_at c.self.inside.sums.items k =
      λ k. c.in_ok-sums.ensures k ∙ ap (λ (xs : List ℕ). sum_at xs k) c.as_slice.ensures.value in
      AddUp-same c.self.inside.slab c.reserve.new.self c.self.inside.sums.items c.in_ok-sums.sums.items (Contains c.in_ok-stale.stale.items) slots sums
      (AddUp-all c.self.inside.slab c.self.inside.sums.items stale (Contains c.in_ok-stale.stale.items)
      (sym (ap length c.as_slice-2.ensures.value) ∙ c.are_right-is_right.ensures.none right)
      (c.self.invariant.sums (c.are_right-is_right.ensures.known right)));
}

pub returns-clause-same : goal.returns-clause-same
returns-clause-same g c =
    let old : List (Option (NodeCells g.row.D)) = c.self.inside.slab.slots in
    ap (λ (a : Slab (NodeCells g.row.D)). a.slots) c.reserve.ensures.rest_kept ∙ slots-copied old c.in_ok-slab.slab.slots c.in_ok-slab.ensures.cases.slots
    ∙ ap (λ (a : Slab (NodeCells g.row.D)). a.slots) c.self.view_is
