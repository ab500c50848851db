-- The nested node that is read off below a number, level by level, and how many nodes it has.
use Rattle.std.proofs.Common.{◌≡◌, ℕ, zero, suc, ◌+◌, ◌≤◌, ℤ, pos, List, [], ◌∷◌, map, length, length-append, Option, Some, refl, sym, ap, ◌∙◌, arith}
use Rattle.std.specs.Prelude.{sum_by}
use Rattle.std.specs.List.{flat_map}
use Rattle.std.proofs.lemmas.List.Sums.{sum_by-cons}
use Rattle.rt_box.specs.declared.interval.Interval.{Interval}
use Rattle.rt_box.specs.Rect.{los, his}
use Rattle.rt_check.specs.declared.node.NodeRow.{NodeRow}
use Rattle.rt_check.specs.declared.node.RawCell.{RawCell}
use Rattle.rt_tree_outside.specs.InOrder.{cells_of_number, nodes_in as size_in}
use Rattle.rt_tree_rules.specs.Nested.{Row, Node, box}
use Rattle.rt_tree_rules.specs.Shadow.{node_count, starts, row_cell, nodes_in}
use Rattle.rt_tree.specs.Lists.{box_in}
use Rattle.rt_tree_one.proofs.Entries.{Each}
use Rattle.rt_tree_one.proofs.Hulling.{IsLong, los-box, his-box}

module _ {D : ℕ} where
  abbrev pub below : (l : ℕ) → Option ℤ → ℕ → List (Node l) → List (NodeRow D)
  below l parent number children = flat_map (λ x. nodes_in l x.0 parent x.1) (starts (node_count l) number children)

module _ (D : ℕ) where
  below_long : (l : ℕ) → ((number : ℕ) (parent : Option ℤ) (node : Node l) → length (nodes_in {D = D} l number parent node) ≡ node_count l node) →
      (number : ℕ) (parent : Option ℤ) (children : List (Node l)) → length (below {D = D} l parent number children) ≡ sum_by (node_count l) children
  below_long l by number parent [] = refl
  below_long l by number parent (x ∷ xs) =
      omega (
        arith,
        length-append (nodes_in {D = D} l number parent x) (below l parent (number + node_count l x) xs),
        by number parent x,
        below_long l by (number + node_count l x) parent xs,
        sum_by-cons (node_count l) x xs,
      )

  pub nodes-long : (l number : ℕ) (parent : Option ℤ) (node : Node l) → length (nodes_in {D = D} l number parent node) ≡ node_count l node
  nodes-long zero number parent node = refl
  nodes-long (suc l) number parent node = let e = below_long l (nodes-long l) (number + 1) (Some (pos number)) node in omega (arith, e)

module _ {D : ℕ} where
  abbrev pub row_of : RawCell D → Row
  row_of c = record { id = c.number; rect = box_in c }

  -- the nested node below the number: a leaf's rows, or what is below each cell's number
  abbrev pub node_at : List (NodeRow D) → (l : ℕ) → ℤ → Node l
  node_at nodes zero number = map row_of (cells_of_number nodes number)
  node_at nodes (suc l) number = map (λ c. node_at nodes l c.number) (cells_of_number nodes number)

  -- ---- a subtree has as many nodes as are counted by its cells' numbers, and as are listed of it
  cells_counted : (nodes : List (NodeRow D)) (l : ℕ) → ((number : ℤ) → node_count l (node_at nodes l number) ≡ size_in nodes l number) → (cells : List (RawCell D)) →
      sum_by (node_count l) (map (λ c. node_at nodes l c.number) cells) ≡ sum_by (λ c. size_in nodes l c.number) cells
  cells_counted nodes l by [] = refl
  cells_counted nodes l by (c ∷ cs) =
      omega (
        arith,
        sum_by-cons (node_count l) (node_at nodes l c.number) (map (λ x. node_at nodes l x.number) cs),
        sum_by-cons (λ (x : RawCell D). size_in nodes l x.number) c cs,
        by c.number,
        cells_counted nodes l by cs,
      )

  pub counted : (nodes : List (NodeRow D)) (l : ℕ) (number : ℤ) → node_count l (node_at nodes l number) ≡ size_in nodes l number
  counted nodes zero number = refl
  counted nodes (suc l) number = let e = cells_counted nodes l (counted nodes l) (cells_of_number nodes number) in omega (arith, e)

  pub some_counted : (nodes : List (NodeRow D)) (l : ℕ) (number : ℤ) → 1 ≤ size_in nodes l number
  some_counted nodes zero number = omega arith
  some_counted nodes (suc l) number = omega arith

  -- ---- cells and nodes by their parts
  abbrev cell_of : ℤ → List ℤ → List ℤ → RawCell D
  cell_of number lo hi = record { number = number; lo = lo; hi = hi }

  pub cell_is : (c : RawCell D) (number : ℤ) (b : List Interval) → IsLong c → c.number ≡ number → b ≡ box_in c → c ≡ cell_of number (los b) (his b)
  cell_is c number b long e is =
      let low : c.lo ≡ los b = sym (los-box c long) ∙ ap los (sym is) in
      let high : c.hi ≡ his b = sym (his-box c long) ∙ ap his (sym is) in
      ap (λ (z : ℤ). cell_of z c.lo c.hi) e ∙ ap (λ (zs : List ℤ). cell_of number zs c.hi) low ∙ ap (cell_of number (los b)) high

  abbrev node_of_parts : ℤ → ℕ → Option ℤ → List (RawCell D) → NodeRow D
  node_of_parts number level parent cells = record { number = number; level = level; parent = parent; cells = cells }

  pub node_is : (n : NodeRow D) (number : ℤ) (level : ℕ) (parent : Option ℤ) (cells : List (RawCell D)) →
      n.number ≡ number → n.level ≡ level → n.parent ≡ parent → n.cells ≡ cells → n ≡ node_of_parts number level parent cells
  node_is n number level parent cells a b c d =
      ap (λ (z : ℤ). node_of_parts z n.level n.parent n.cells) a
      ∙ ap (λ (l : ℕ). node_of_parts number l n.parent n.cells) b
      ∙ ap (λ (p : Option ℤ). node_of_parts number level p n.cells) c
      ∙ ap (node_of_parts number level parent) d

  pub rows_are : (cells : List (RawCell D)) → Each IsLong cells → cells ≡ map row_cell (map row_of cells)
  rows_are [] long = refl
  rows_are (c ∷ cs) long =
      ap (λ (x : RawCell D). x ∷ cs) (cell_is c c.number (box_in c) long.0 refl refl) ∙ ap (λ (xs : List (RawCell D)). row_cell (row_of c) ∷ xs) (rows_are cs long.1)

  pub row_boxes : (cells : List (RawCell D)) → map (box zero) (map row_of cells) ≡ map box_in cells
  row_boxes [] = refl
  row_boxes (c ∷ cs) = ap (λ (bs : List (List Interval)). box_in c ∷ bs) (row_boxes cs)
