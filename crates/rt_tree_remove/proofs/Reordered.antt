-- Pending cells in another order.
use Rattle.std.proofs.Common.{◌≡◌, ℕ, suc, ◌+◌, ◌≤◌, Bool, ℤ, List, [], ◌∷◌, Option, count_by, arith, refl, ap, sym, ◌∙◌}
use Rattle.std.specs.List.{sum_by, flat_map}
use Rattle.std.specs.List.Sorted.{IsPermutation}
use Rattle.std.proofs.lemmas.List.Sorted.{All-permutation, sum_by-IsPermutation}
use Rattle.std.proofs.lemmas.List.Sums.{sum_by-cons}
use Rattle.slab.specs.Slab.{Slab}
use Rattle.rt_box.specs.Rect.{IsBox}
use Rattle.rt_tree_node.specs.declared.cell.Cell.{Cell}
use Rattle.rt_tree_node.specs.declared.cell.Pending.{Pending}
use Rattle.rt_tree_node.specs.Node.{NodeCells}
use Rattle.rt_tree_node.specs.Places.{key_of, times_named, leaf_part, inner_part, cells_above, hull_at, pending_rows, pending_nodes, count_rows}
use Rattle.rt_tree_node.specs.Sound.{Names, IsLinked, IsFitted, HasHomes}
use Rattle.rt_tree_node.proofs.Counts.{count-append}
use Rattle.rt_tree_node.proofs.Places.{names_key, has_id}
use Rattle.rt_tree_node.proofs.Homes.{homes-pending}

module _ {X Y : Type 0} (test : Y → Bool) (part : X → List Y) where
  count-flat : (xs : List X) → count_by test (flat_map part xs) ≡ sum_by (λ x. count_by test (part x)) xs
  count-flat [] = refl
  count-flat (x ∷ xs) =
      omega (arith, count-append test (part x) (flat_map part xs), sum_by-cons (λ y. count_by test (part y)) x xs, count-flat xs)

  pub count-reordered : (xs ys : List X) → IsPermutation xs ys → count_by test (flat_map part ys) ≡ count_by test (flat_map part xs)
  count-reordered xs ys moved = count-flat ys ∙ sum_by-IsPermutation (λ x. count_by test (part x)) xs ys moved ∙ sym (count-flat xs)

module _ {D : ℕ} (a : Slab (NodeCells D)) (ws vs : List (Pending D)) (moved : IsPermutation ws vs) where
  same-nodes : (k : ℕ) → times_named k (pending_nodes vs) ≡ times_named k (pending_nodes ws)
  same-nodes k = count-reordered (names_key k) (λ w. inner_part w.level (w.cell ∷ [])) ws vs moved

  same-rows : (test : Cell D → Bool) → count_by test (pending_rows vs) ≡ count_by test (pending_rows ws)
  same-rows test = count-reordered test (λ w. leaf_part w.level (w.cell ∷ [])) ws vs moved

  pub reordered-linked : (root level : ℕ) → IsLinked a root level ws → IsLinked a root level vs
  reordered-linked root level linked = record {
    root_level = linked.root_level;
    root_parent = linked.root_parent;
    root_waits_not = same-nodes root ∙ linked.root_waits_not;
    levels = linked.levels;
    children = linked.children;
    named = λ k l e away. ap (λ n. times_named k (cells_above a k) + n) (same-nodes k) ∙ linked.named k l e away;
    pending_levels = All-permutation (λ w. w.level ≤ level) ws vs moved linked.pending_levels;
    pending_named = All-permutation (λ w. (l : ℕ) → w.level ≡ suc l → Names a l w.cell) ws vs moved linked.pending_named;
  }

  pub reordered-fitted : (M root : ℕ) (odd : Option ℕ) → IsFitted M a root ws odd → IsFitted M a root vs odd
  reordered-fitted M root odd fitted = record {
    cap = fitted.cap;
    some = fitted.some;
    least = fitted.least;
    most = fitted.most;
    boxes = fitted.boxes;
    hulls = fitted.hulls;
    pending_boxes = All-permutation (λ w. IsBox D w.cell.rect) ws vs moved fitted.pending_boxes;
    pending_hulls = All-permutation (λ w. (l : ℕ) → w.level ≡ suc l → w.cell.rect ≡ hull_at a (key_of w.cell)) ws vs moved fitted.pending_hulls;
  }

  pub reordered-homes : (f : ℤ → Option ℕ) → HasHomes f a ws → HasHomes f a vs
  reordered-homes f homes = homes-pending f a ws vs (λ id. same-rows (has_id id)) homes

  pub reordered-rows : (test : Cell D → Bool) → count_rows test a vs ≡ count_rows test a ws
  reordered-rows test = let same = same-rows test in omega arith
