-- An arena after an overfull node gave up the cells that are inserted again.
use Rattle.std.proofs.Common.{◌≡◌, ◌⊎◌, ℕ, ◌+◌, ◌≤◌, Bool, List, ◌++◌, length, Some, arith, ap, ◌∙◌, sym, subst}
use Rattle.std.specs.Ordering.{int_eq}
use Rattle.std.specs.List.Sorted.{IsPermutation}
use Rattle.std.proofs.lemmas.List.{length-append}
use Rattle.std.proofs.lemmas.List.Sorted.{length_permutation}
use Rattle.indexmap.specs.IndexMap.{get as leaf_of}
use Rattle.slab.specs.Slab.{get}
use Rattle.rt_box.specs.Capacity.{least_fill}
use Rattle.rt_tree_node.specs.declared.arena.Arena.{Arena}
use Rattle.rt_tree_node.specs.declared.cell.Cell.{Cell}
use Rattle.rt_tree_node.specs.declared.cell.Pending.{Pending}
use Rattle.rt_tree_node.specs.Node.{NodeCells}
use Rattle.rt_tree_node.specs.Places.{cells_of, cells_at, count_rows, pending_at}
use Rattle.rt_tree_node.specs.Sound.{IsLinked, HasHomes}
use Rattle.rt_tree_node.specs.Open.{IsFittedBut, IsOpen}
use Rattle.rt_tree_place.specs.Steps.{GivesUp}
use Rattle.rt_tree_place.proofs.Positions.{reinserts-moved, reinserts-share}
use Rattle.rt_tree_place.proofs.Regroup.{regrouped-linked, regrouped-fitted, regrouped-homes, regrouped-rows}

module _ {D : ℕ} (E : ℕ → Type 0) (decide : (x : ℕ) → E x ⊎ (E x → ⊥)) (old new : Arena D) (key : ℕ) (n : NodeCells D)
    (was : IsOpen E old old.pending.items) (odd : E key) (has : get old.nodes key ≡ Some n) (done : GivesUp old new key n) where
  moved : IsPermutation n.cells (done.near ++ done.far)
  moved = reinserts-moved old.capacity n.cells done.near done.far done.chosen

  abbrev after : List (Pending D)
  after = old.pending.items ++ pending_at n.level done.far

  pub given-up : IsOpen E new new.pending.items
  given-up = subst (IsOpen E new) (sym done.pending) record {
    linked = subst (λ t. IsLinked new.nodes t.root t.level after) (sym done.rest)
        (regrouped-linked old.nodes new.nodes old.root old.level old.pending.items key n done.near done.far moved has done.nodes.updates was.linked);
    fitted = subst (λ t. IsFittedBut E t.capacity new.nodes t.root after) (sym done.rest)
        (regrouped-fitted old.nodes new.nodes old.root old.level old.pending.items key n done.near done.far moved has done.nodes.updates E old.capacity decide odd was.fitted);
    homes = subst (λ t. HasHomes (leaf_of int_eq t.leaves) new.nodes after) (sym done.rest)
        (regrouped-homes old.nodes new.nodes old.root old.level old.pending.items key n done.near done.far moved has done.nodes.updates (leaf_of int_eq old.leaves) was.homes);
  }

  pub rows-given_up : (test : Cell D → Bool) → count_rows test new.nodes new.pending.items ≡ count_rows test old.nodes old.pending.items
  rows-given_up test = ap (count_rows test new.nodes) done.pending
      ∙ regrouped-rows old.nodes new.nodes old.root old.level old.pending.items key n done.near done.far moved has done.nodes.updates test

  -- an overfull node is filled enough then
  pub filled-after : length (cells_at old.nodes key) ≡ old.capacity + 1 →
      (least_fill old.capacity ≤ length (cells_at new.nodes key)) × (length (cells_at new.nodes key) ≤ old.capacity)
  filled-after full =
      let cap = was.fitted.cap in
      let count = ap (λ s. length (cells_of s)) done.nodes.updates.changed in
      let whole = ap (λ s. length (cells_of s)) has in
      let long = length_permutation n.cells (done.near ++ done.far) moved in
      let parts = length-append done.near done.far in
      let share = reinserts-share old.capacity n.cells done.near done.far done.chosen (omega (arith, cap, whole, full)) in
      (omega (arith, cap, count, whole, long, parts, share, full), omega (arith, cap, count, whole, long, parts, share, full))
