-- A window that admits whatever lies in the root's hull admits all rows.
use Rattle.std.proofs.Common.{◌≡◌, ℕ, zero, suc, true, List, get_or, Option, None, Some, refl, sym, ◌∙◌, subst}
use Rattle.std.specs.List.{All}
use Rattle.std.proofs.lemmas.List.Elements.{All-nil, All-map}
use Rattle.slab.specs.Slab.{get}
use Rattle.rt_box.specs.declared.interval.Interval.{Interval}
use Rattle.rt_box.specs.Rect.{IsBox}
use Rattle.rt_box.specs.Window.{Admits}
use Rattle.rt_tree_node.specs.declared.arena.Arena.{Arena}
use Rattle.rt_tree_node.specs.declared.cell.Cell.{Cell}
use Rattle.rt_tree_node.specs.Node.{NodeCells}
use Rattle.rt_tree_node.specs.Places.{cells_of, leaf_cells_of, leaf_part, leaf_cells_at}
use Rattle.rt_tree_node.specs.Whole.{row_count}
use Rattle.rt_tree_place.proofs.Sums.{count-all}
use Rattle.rt_tree_walk.specs.declared.searching.Row.{Row}
use Rattle.rt_tree_walk.specs.Search.{row_of}
use Rattle.rt_tree_walk.specs.Preorder.{tree_keys}
use Rattle.rt_tree_walk.specs.Rows.{rows_in}
use Rattle.rt_tree_walk.proofs.Progress.{IsSettled}
use Rattle.rt_tree_walk.proofs.Below.{leaf_rows}
use Rattle.rt_tree_outside.specs.Outside.{outside}
use Rattle.rt_tree.specs.BoundsInside.{AdmitsRoot}
use Rattle.rt_tree.specs.Lists.{rows_of}
use Rattle.rt_tree.specs.Search.{CountsIn}
use Rattle.rt_tree.proofs.Around.{root-least}
use Rattle.rt_tree.proofs.Nearby.{rows-listed}
use Rattle.rt_tree.proofs.Rows.{rows-counted}
use Rattle.rt_tree_walk.proofs.Listed.{All-flat}

module _ {D : ℕ} (t : Arena D) (s : IsSettled t) where
  leaf-boxes : (place : Option (NodeCells D)) → All (λ (c : Cell D). IsBox D c.rect) (cells_of place) → All (λ (c : Cell D). IsBox D c.rect) (leaf_cells_of place)
  leaf-boxes None all = all
  leaf-boxes (Some n) all = by n.level
    where
      by : (l : ℕ) → All (λ (c : Cell D). IsBox D c.rect) (leaf_part l n.cells)
      by zero = all
      by (suc l) = All-nil (λ (c : Cell D). IsBox D c.rect)

  -- each row has a box
  rows-boxed : All (λ (r : Row D). IsBox D r.rect) (rows_in t)
  rows-boxed =
      All-flat (λ (r : Row D). IsBox D r.rect) (leaf_rows t.nodes) (tree_keys t)
      (λ i d h. let k = get_or (tree_keys t) i d in All-map (λ (r : Row D). IsBox D r.rect) row_of (leaf_cells_at t.nodes k) (leaf-boxes (get t.nodes k) (s.whole.fitted.boxes k)))

  module _ (window : List Interval) (all : AdmitsRoot t window) where
    rows-admitted : All (λ (r : Row D). Admits window r.rect) (rows_in t)
    rows-admitted = λ i d h. all.1 (get_or (rows_in t) i d).rect (rows-boxed i d h) ((root-least t s all.0).around i d h)

    pub counts-all : (n : ℕ) → n ≡ row_count t → CountsIn (outside t) window n
    counts-all n e = record {
      rows = rows_of (outside t);
      admitted = subst (All (λ (r : Row D). Admits window r.rect)) (sym (rows-listed t s)) rows-admitted;
      each = λ test asks. refl;
      counted = e ∙ sym (rows-counted t s (λ r. true)) ∙ count-all (rows_of (outside t));
    }
