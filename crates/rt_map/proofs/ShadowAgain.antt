-- A sound shadow in preorder is made again.
use Rattle.std.proofs.Common.{◌≡◌, ℕ, ◌≤◌, List, length, map, None, refl, ap, ◌∙◌, subst}
use Rattle.std.specs.Ordering.{int_eq}
use Rattle.indexmap.specs.IndexMap.{IsUnique}
use Rattle.rt_box.specs.Capacity.{IsCapacity}
use Rattle.rt_check.specs.Shadow.{ShadowLists}
use Rattle.rt_check.specs.declared.node.NodeRow.{NodeRow}
use Rattle.rt_tree_node.specs.declared.arena.Arena.{Arena}
use Rattle.rt_tree_node.specs.Whole.{most_rows_of_a_tree}
use Rattle.rt_tree_walk.specs.declared.searching.Row.{Row}
use Rattle.rt_tree_outside.specs.Outside.{outside}
use Rattle.rt_tree_outside.proofs.Flawless.{outside-sound}
use Rattle.rt_tree_outside.proofs.Subtrees.{outside-ordered}
use Rattle.rt_tree_outside.proofs.Rows.{entries-rise}
use Rattle.rt_tree_rules.specs.Nested.{Tree}
use Rattle.rt_tree_rules.specs.Shadow.{nodes_in, Shows}
use Rattle.rt_tree_obeys.proofs.Seen.{nodes_seen}
use Rattle.rt_tree.specs.Lists.{IsInShape, rows_of}
use Rattle.rt_tree.specs.Kept.{IsKeptWith}
use Rattle.rt_tree.proofs.Kept.{kept-settled}
use Rattle.rt_tree_one.specs.Laws.{CellsHaveAxes}
use Rattle.rt_tree_one.proofs.Inserted.{same_lists}
use Rattle.rt_map.specs.declared.shape.Shape.{Shape}
use Rattle.rt_map.specs.ReadingInside.{shape_in}
use Rattle.rt_map.specs.Meant.{IsListed, IsMade}
use Rattle.rt_map.proofs.MeantLists.{shape-listed, listed-at}

module _ {D : ℕ} where
  kept-shape : (t : Arena D) → IsKeptWith t 0 → IsUnique int_eq t.leaves → IsInShape (outside t)
  kept-shape t kept unique = record {
    sound = outside-sound t (kept-settled t 0 kept) kept.branched;
    preorder = outside-ordered t (kept-settled t 0 kept);
    rising = entries-rise t unique;
  }

  made-shown : (t : Arena D) (capacity : ℕ) (tree : Tree) → IsKeptWith t 0 → IsMade t capacity tree → Shows (outside t) tree
  made-shown t capacity tree kept made =
      let of : Tree → List (NodeRow D) = λ x. nodes_in x.level 1 None x.root in
      (refl, nodes_seen D t kept.whole kept.idle ∙ ap of made.tree_is)

  -- by its shapes and rows the nested tree is meant that a sound shadow in preorder shows
  pub shadow-meant : (s : ShadowLists D) (capacity : ℕ) (shapes : List Shape) (rows : List (Row D)) →
      capacity ≡ s.capacity → shapes ≡ map shape_in s.nodes → rows ≡ rows_of s →
      IsCapacity capacity → CellsHaveAxes s → IsInShape s → length rows ≤ most_rows_of_a_tree → (tree : Tree) × Shows s tree × IsListed capacity shapes rows tree
  shadow-meant s capacity shapes rows same_capacity same_shapes same_rows is_capacity axes shape most =
      let found = shape-listed s (subst IsCapacity same_capacity is_capacity) axes shape (subst (λ (rs : List (Row D)). length rs ≤ most_rows_of_a_tree) same_rows most) in
      (found.0, found.1, listed-at s capacity shapes rows found.0 same_capacity same_shapes same_rows found.2)

  -- the nodes that are made of it are seen as the shadow
  pub seen-again : (t : Arena D) (s : ShadowLists D) (capacity : ℕ) (tree : Tree) → capacity ≡ s.capacity → IsKeptWith t 0 → IsUnique int_eq t.leaves →
      IsMade t capacity tree → IsInShape s → Shows s tree → outside t ≡ s
  seen-again t s capacity tree same kept unique made shape shows =
      same_lists (outside t) s tree (kept-shape t kept unique) shape (made.capacity_is ∙ same) (made-shown t capacity tree kept made) shows
