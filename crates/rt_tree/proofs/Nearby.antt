-- The rows of a tree from outside are those of its leaves, in preorder.
use Rattle.std.proofs.Common.{◌≡◌, ℕ, zero, suc, ◌++◌, cond, List, [], ◌∷◌, map, refl, ap, sym, ◌∙◌}
use Rattle.std.specs.List.{All, flat_map}
use Rattle.std.proofs.lemmas.List.{map-append}
use Rattle.std.proofs.lemmas.List.Elements.{All-head, All-tail}
use Rattle.rt_check.specs.declared.node.NodeRow.{NodeRow}
use Rattle.rt_check.specs.Conditions.{is_leaf, leaf_cells}
use Rattle.rt_tree_node.specs.declared.arena.Arena.{Arena}
use Rattle.rt_tree_node.specs.declared.cell.Cell.{Cell}
use Rattle.rt_tree_node.specs.Places.{leaf_cells_at, cells_at}
use Rattle.rt_tree_node.proofs.Places.{leaf-at_leaf, leaf-at_inner}
use Rattle.rt_tree_walk.specs.Rows.{rows_in}
use Rattle.rt_tree_walk.specs.declared.searching.Row.{Row}
use Rattle.rt_tree_walk.specs.Search.{row_of}
use Rattle.rt_tree_walk.specs.Preorder.{tree_keys}
use Rattle.rt_tree_outside.specs.Outside.{cell_row, outside}
use Rattle.rt_tree_walk.proofs.Progress.{IsSettled}
use Rattle.rt_tree_walk.proofs.Listed.{HasNode, listed-there}
use Rattle.rt_tree_outside.proofs.Judged.{row, row-cells, row-leaf, row-inner}
use Rattle.rt_tree_outside.proofs.Flawless.{numbering}
use Rattle.rt_tree.specs.Lists.{row_in, rows_of}
use Rattle.rt_tree.proofs.Reading.{number}
use Rattle.rt_tree.proofs.Rows.{row-back}

module _ {D : ℕ} (t : Arena D) (s : IsSettled t) where
  abbrev node : ℕ → NodeRow D
  node = row t s (tree_keys t) (number t) (numbering t s)

  rows-back : (cells : List (Cell D)) → map row_in (map (cell_row (number t) 0) cells) ≡ map row_of cells
  rows-back [] = refl
  rows-back (c ∷ cs) = ap (λ (r : Row D). r ∷ map row_in (map (cell_row (number t) 0) cs)) (row-back c) ∙ ap (λ rs. row_of c ∷ rs) (rows-back cs)

  node-rows : (k : ℕ) → HasNode t s k → map row_in (cond (is_leaf (node k)) (node k).cells []) ≡ map row_of (leaf_cells_at t.nodes k)
  node-rows k (zero, e) =
      ap (λ b. map row_in (cond b (node k).cells [])) (row-leaf t s (tree_keys t) (number t) (numbering t s) k e)
      ∙ ap (map row_in) (row-cells t s (tree_keys t) (number t) (numbering t s) k 0 e)
      ∙ rows-back (cells_at t.nodes k)
      ∙ ap (map row_of) (sym (leaf-at_leaf t.nodes k e))
  node-rows k (suc l, e) =
      ap (λ b. map row_in (cond b (node k).cells [])) (row-inner t s (tree_keys t) (number t) (numbering t s) k l e)
      ∙ ap (map row_of) (sym (leaf-at_inner t.nodes k l e))

  listed-rows : (keys : List ℕ) → All (HasNode t s) keys → map row_in (leaf_cells (map node keys)) ≡ flat_map (λ k. map row_of (leaf_cells_at t.nodes k)) keys
  listed-rows [] all = refl
  listed-rows (k ∷ ks) all =
      map-append row_in (cond (is_leaf (node k)) (node k).cells []) (leaf_cells (map node ks))
      ∙ ap (λ rs. rs ++ map row_in (leaf_cells (map node ks))) (node-rows k (All-head (HasNode t s) k ks all))
      ∙ ap (λ rs. map row_of (leaf_cells_at t.nodes k) ++ rs) (listed-rows ks (All-tail (HasNode t s) k ks all))

  pub rows-listed : rows_of (outside t) ≡ rows_in t
  rows-listed = listed-rows (tree_keys t) (listed-there t s)
