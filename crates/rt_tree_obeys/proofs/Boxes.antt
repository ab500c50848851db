-- Boxes of the nested view are those that the arena keeps.
use Rattle.std.proofs.Common.{◌≡◌, ℕ, zero, suc, ◌≤◌, List, [], ◌∷◌, map, get_or, Some, refl, sym, ap, ◌∙◌, arith}
use Rattle.std.specs.List.{All}
use Rattle.rt_box.specs.Hull.{hull}
use Rattle.slab.specs.Slab.{Slab}
use Rattle.rt_tree_node.specs.Node.{NodeCells}
use Rattle.rt_tree_node.specs.Places.{key_of, cells_at, level_at, hull_at, rects}
use Rattle.rt_tree_rules.specs.Nested.{box, boxes}
use Rattle.rt_tree_obeys.specs.View.{entry_in, node_in}
use Rattle.rt_tree_obeys.proofs.Frames.{HasChildren, map_same}

pub map_map : {X Y Z : Type 0} (f : Y → Z) (g : X → Y) (xs : List X) → map f (map g xs) ≡ map (λ x. f (g x)) xs
map_map f g [] = refl
map_map f g (x ∷ xs) = ap (λ zs. f (g x) ∷ zs) (map_map f g xs)

module _ {D : ℕ} where
  -- up to the level cells have the least boxes around what they name
  abbrev pub HasHulls : Slab (NodeCells D) → ℕ → Type 0
  HasHulls a m = (x j : ℕ) → level_at a x ≡ Some (suc j) → suc j ≤ m → All (λ c. c.rect ≡ hull_at a (key_of c)) (cells_at a x)

  pub boxes_kept : (a : Slab (NodeCells D)) (m : ℕ) → HasChildren a → HasHulls a m → (j x : ℕ) → level_at a x ≡ Some j → j ≤ m →
      boxes j (node_in a j x) ≡ rects (cells_at a x)
  boxes_kept a m children hulls zero x here low = map_map (box zero) (entry_in a zero) (cells_at a x)
  boxes_kept a m children hulls (suc j) x here low =
      map_map (box (suc j)) (entry_in a (suc j)) (cells_at a x)
      ∙ map_same (λ c. box (suc j) (entry_in a (suc j) c)) (λ c. c.rect) (cells_at a x) (λ k d within.
      let c = get_or (cells_at a x) k d in
      let below = boxes_kept a m children hulls j (key_of c) (children x j here k d within).names.level_is (omega arith) in
      ap hull below ∙ sym (hulls x j here low k d within))
