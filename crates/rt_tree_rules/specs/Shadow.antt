-- What the checker sees of a nested tree: its nodes in preorder, numbered from 1, and its row entries by rising id.
use Rattle.std.specs.Prelude.{◌≡◌, ℕ, zero, suc, ◌+◌, ℤ, pos, List, [], ◌∷◌, Option, None, Some, map, sum_by}
use Rattle.std.specs.List.{flat_map}
use Rattle.std.specs.Ordering.{int_cmp}
use Rattle.rt_box.specs.Rect.{los, his}
use Rattle.rt_check.specs.declared.node.NodeRow.{NodeRow}
use Rattle.rt_check.specs.declared.node.RawCell.{RawCell}
use Rattle.rt_check.specs.declared.node.RowEntry.{RowEntry}
use Rattle.rt_check.specs.Shadow.{ShadowLists}
use Rattle.rt_tree_choice.specs.Sorting.{sort_by}
use Rattle.rt_tree_rules.specs.Nested.{Row, Node, box, Tree}

-- the number of nodes of a subtree
abbrev pub node_count : (l : ℕ) → Node l → ℕ
node_count zero node = 1
node_count (suc l) node = 1 + sum_by (node_count l) node

-- each element with the number that it begins at, if the first begins at this one and each takes as many as its size
abbrev pub starts : {X : Type 0} → (X → ℕ) → ℕ → List X → List (ℕ × X)
starts size number [] = []
starts size number (x ∷ xs) = (number, x) ∷ starts size (number + size x) xs

-- the entries of a leaf's rows
abbrev pub entries_in : (l : ℕ) → ℕ → Node l → List RowEntry
entries_in zero number node = map (λ r. record { id = r.id; leaf = pos number }) node
entries_in (suc l) number node = flat_map (λ s. entries_in l s.0 s.1) (starts (node_count l) (number + 1) node)

module _ {D : ℕ} where
  abbrev pub row_cell : Row → RawCell D
  row_cell r = record { number = r.id; lo = los r.rect; hi = his r.rect }

  -- the cell of the child that begins at the number
  abbrev pub child_cell : (l : ℕ) → ℕ × Node l → RawCell D
  child_cell l s = record { number = pos s.0; lo = los (box (suc l) s.1); hi = his (box (suc l) s.1) }

  -- the node, which has that number and parent, and then what is below each of its cells
  abbrev pub nodes_in : (l : ℕ) → ℕ → Option ℤ → Node l → List (NodeRow D)
  nodes_in zero number parent node =
      record { number = pos number; level = zero; parent = parent; cells = map row_cell node } ∷ []
  nodes_in (suc l) number parent node =
      let children = starts (node_count l) (number + 1) node in
      record { number = pos number; level = suc l; parent = parent; cells = map (child_cell l) children }
      ∷ flat_map (λ s. nodes_in l s.0 (Some (pos number)) s.1) children

  abbrev pub shadow_of : ℕ → Tree → ShadowLists D
  shadow_of capacity tree = record {
    capacity = capacity;
    root = pos 1;
    nodes = nodes_in tree.level 1 None tree.root;
    rows = sort_by (λ r s. int_cmp r.id s.id) (entries_in tree.level 1 tree.root);
  }

  -- the root's number is 1, and the nodes that are listed are those of the nested tree
  abbrev pub Shows : ShadowLists D → Tree → Type 0
  Shows s tree = (s.root ≡ pos 1) × (s.nodes ≡ nodes_in tree.level 1 None tree.root)
