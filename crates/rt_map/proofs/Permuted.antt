-- A tree without rows that is ready for some is ready for them in any order.
use Rattle.std.proofs.Common.{◌≡◌, ℕ, Bool, List, length, cond, refl, ◌∙◌, sym, subst}
use Rattle.std.specs.Ordering.{int_eq}
use Rattle.std.specs.List.{count_by, sum_by}
use Rattle.std.specs.List.Sorted.{IsPermutation}
use Rattle.std.proofs.lemmas.List.Recursion.{is_sum_by}
use Rattle.std.proofs.lemmas.List.Sorted.{All-permutation, IsPermutation-sym, length_permutation, sum_by-IsPermutation}
use Rattle.rt_box.specs.Rect.{IsBox}
use Rattle.rt_tree_node.proofs.Counts.{count-cons}
use Rattle.rt_tree_node.specs.declared.arena.Arena.{Arena}
use Rattle.rt_tree_node.specs.declared.cell.Cell.{Cell}
use Rattle.rt_tree_node.specs.Whole.{HasRoom}
use Rattle.rt_map.specs.PackingInside.{IsReadyFor}

module _ {X : Type 0} where
  count-permuted : (test : X → Bool) (xs ys : List X) → IsPermutation xs ys → count_by test ys ≡ count_by test xs
  count-permuted test xs ys moved = sym (summed ys) ∙ sum_by-IsPermutation (λ x. cond (test x) 1 0) xs ys moved ∙ summed xs
    where
      summed : (zs : List X) → sum_by (λ x. cond (test x) 1 0) zs ≡ count_by test zs
      summed zs = sym (is_sum_by (count_by test) (λ x. cond (test x) 1 0) refl (λ x xs. count-cons test x xs) zs)

module _ {D : ℕ} where
  pub ready-permuted : (t : Arena D) (capacity : ℕ) (rows sorted : List (Cell D)) → IsPermutation rows sorted → IsReadyFor t capacity sorted → IsReadyFor t capacity rows
  ready-permuted t capacity rows sorted moved ready =
      let long : length sorted ≡ length rows = length_permutation rows sorted moved in
      record {
        bare = ready.bare;
        entered = record {
          boxes = All-permutation (λ c. IsBox D c.rect) sorted rows (IsPermutation-sym rows sorted moved) ready.entered.boxes;
          ids = λ id. sym (count-permuted (λ c. int_eq id c.number) rows sorted moved) ∙ ready.entered.ids id;
        };
        entries = ready.entries ∙ long;
        room = subst (HasRoom t) long ready.room;
        pending_room = ready.pending_room;
        capacity_is = ready.capacity_is;
      }
