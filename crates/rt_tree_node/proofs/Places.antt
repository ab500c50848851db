-- What stands at the keys of a slab, in each of its readings.
use Rattle.std.proofs.Common.{◌≡◌, ◌≢◌, ℕ, zero, suc, ◌+◌, ◌<◌, Bool, ℤ, List, [], ◌∷◌, ◌++◌, Option, Some, None, count_by, nat_eq, eq-eqb, ne_eqb, eqb-true, arith, refl, ap, ◌∙◌}
use Rattle.std.specs.Ordering.{int_eq}
use Rattle.std.specs.List.{All}
use Rattle.std.proofs.lemmas.Option.{same_Some, none-some}
use Rattle.slab.specs.Slab.{Slab, get}
use Rattle.rt_tree_node.specs.declared.cell.Cell.{Cell}
use Rattle.rt_tree_node.specs.declared.cell.Pending.{Pending}
use Rattle.rt_tree_node.specs.Node.{NodeCells}
use Rattle.rt_tree_node.specs.Places.{key_of, times_named, cells_of, leaf_part, inner_part, leaf_cells_of, inner_cells_of, level_of, cells_at, leaf_cells_at, inner_cells_at, level_at, pending_rows, pending_nodes, pending_at}
use Rattle.rt_tree_node.proofs.Counts.{count-zero, count-find, count-append, count-one_yes, count-one_no, count-middle, count-joined}

module _ {D : ℕ} where
  inner_of-inner : (s : Option (NodeCells D)) (l : ℕ) → level_of s ≡ Some (suc l) → inner_cells_of s ≡ cells_of s
  inner_of-inner None l e = absurd (none-some (suc l) e)
  inner_of-inner (Some n) l e = ap (λ m. inner_part m n.cells) (same_Some n.level (suc l) e)

  inner_of-leaf : (s : Option (NodeCells D)) → level_of s ≡ Some 0 → inner_cells_of s ≡ []
  inner_of-leaf None e = refl
  inner_of-leaf (Some n) e = ap (λ m. inner_part m n.cells) (same_Some n.level 0 e)

  leaf_of-leaf : (s : Option (NodeCells D)) → level_of s ≡ Some 0 → leaf_cells_of s ≡ cells_of s
  leaf_of-leaf None e = refl
  leaf_of-leaf (Some n) e = ap (λ m. leaf_part m n.cells) (same_Some n.level 0 e)

  leaf_of-inner : (s : Option (NodeCells D)) (l : ℕ) → level_of s ≡ Some (suc l) → leaf_cells_of s ≡ []
  leaf_of-inner None l e = refl
  leaf_of-inner (Some n) l e = ap (λ m. leaf_part m n.cells) (same_Some n.level (suc l) e)

  pub inner-at_inner : (a : Slab (NodeCells D)) (k l : ℕ) → level_at a k ≡ Some (suc l) → inner_cells_at a k ≡ cells_at a k
  inner-at_inner a k l e = inner_of-inner (get a k) l e

  pub inner-at_leaf : (a : Slab (NodeCells D)) (k : ℕ) → level_at a k ≡ Some 0 → inner_cells_at a k ≡ []
  inner-at_leaf a k e = inner_of-leaf (get a k) e

  pub leaf-at_leaf : (a : Slab (NodeCells D)) (k : ℕ) → level_at a k ≡ Some 0 → leaf_cells_at a k ≡ cells_at a k
  leaf-at_leaf a k e = leaf_of-leaf (get a k) e

  pub leaf-at_inner : (a : Slab (NodeCells D)) (k l : ℕ) → level_at a k ≡ Some (suc l) → leaf_cells_at a k ≡ []
  leaf-at_inner a k l e = leaf_of-inner (get a k) l e

  -- the cells above an inner level, where all of that level's nodes are sound
  inner_of-all : (P : Cell D → Type 0) (s : Option (NodeCells D)) →
      ((l : ℕ) → level_of s ≡ Some (suc l) → All P (cells_of s)) → All P (inner_cells_of s)
  inner_of-all P None h = λ k d within. absurd (omega arith)
  inner_of-all P (Some n) h = by n.level refl
    where
      by : (l : ℕ) → n.level ≡ l → All P (inner_part l n.cells)
      by zero e = λ k d within. absurd (omega arith)
      by (suc l) e = h l (ap Some e)

  pub inner-all : (P : Cell D → Type 0) (a : Slab (NodeCells D)) (k : ℕ) →
      ((l : ℕ) → level_at a k ≡ Some (suc l) → All P (cells_at a k)) → All P (inner_cells_at a k)
  inner-all P a k h = inner_of-all P (get a k) h

  leaf_part-append : (l : ℕ) (xs ys : List (Cell D)) → leaf_part l (xs ++ ys) ≡ leaf_part l xs ++ leaf_part l ys
  leaf_part-append zero xs ys = refl
  leaf_part-append (suc l) xs ys = refl

  inner_part-append : (l : ℕ) (xs ys : List (Cell D)) → inner_part l (xs ++ ys) ≡ inner_part l xs ++ inner_part l ys
  inner_part-append zero xs ys = refl
  inner_part-append (suc l) xs ys = refl

  pub count-leaf_push : (test : Cell D → Bool) (l : ℕ) (xs : List (Cell D)) (c : Cell D) →
      count_by test (leaf_part l (xs ++ c ∷ [])) ≡ count_by test (leaf_part l xs) + count_by test (leaf_part l (c ∷ []))
  count-leaf_push test l xs c = ap (count_by test) (leaf_part-append l xs (c ∷ [])) ∙ count-append test (leaf_part l xs) (leaf_part l (c ∷ []))

  pub count-inner_push : (test : Cell D → Bool) (l : ℕ) (xs : List (Cell D)) (c : Cell D) →
      count_by test (inner_part l (xs ++ c ∷ [])) ≡ count_by test (inner_part l xs) + count_by test (inner_part l (c ∷ []))
  count-inner_push test l xs c = ap (count_by test) (inner_part-append l xs (c ∷ [])) ∙ count-append test (inner_part l xs) (inner_part l (c ∷ []))

  -- one pending cell taken out of the middle, or some added
  pub rows-middle : (test : Cell D → Bool) (xs : List (Pending D)) (w : Pending D) (ys : List (Pending D)) →
      count_by test (pending_rows (xs ++ w ∷ ys)) ≡ count_by test (pending_rows (xs ++ ys)) + count_by test (leaf_part w.level (w.cell ∷ []))
  rows-middle test xs w ys = count-middle test (λ v. leaf_part v.level (v.cell ∷ [])) xs w ys

  pub nodes-middle : (test : Cell D → Bool) (xs : List (Pending D)) (w : Pending D) (ys : List (Pending D)) →
      count_by test (pending_nodes (xs ++ w ∷ ys)) ≡ count_by test (pending_nodes (xs ++ ys)) + count_by test (inner_part w.level (w.cell ∷ []))
  nodes-middle test xs w ys = count-middle test (λ v. inner_part v.level (v.cell ∷ [])) xs w ys

  nodes-pending_at : (l : ℕ) (cs : List (Cell D)) → pending_nodes (pending_at l cs) ≡ inner_part l cs
  nodes-pending_at zero [] = refl
  nodes-pending_at zero (c ∷ cs) = nodes-pending_at zero cs
  nodes-pending_at (suc l) [] = refl
  nodes-pending_at (suc l) (c ∷ cs) = ap (λ xs. c ∷ xs) (nodes-pending_at (suc l) cs)

  rows-pending_at : (l : ℕ) (cs : List (Cell D)) → pending_rows (pending_at l cs) ≡ leaf_part l cs
  rows-pending_at zero [] = refl
  rows-pending_at zero (c ∷ cs) = ap (λ xs. c ∷ xs) (rows-pending_at zero cs)
  rows-pending_at (suc l) [] = refl
  rows-pending_at (suc l) (c ∷ cs) = rows-pending_at (suc l) cs

  pub nodes-joined : (test : Cell D → Bool) (ws : List (Pending D)) (l : ℕ) (cs : List (Cell D)) →
      count_by test (pending_nodes (ws ++ pending_at l cs)) ≡ count_by test (pending_nodes ws) + count_by test (inner_part l cs)
  nodes-joined test ws l cs =
      count-joined test (λ v. inner_part v.level (v.cell ∷ [])) ws (pending_at l cs) ∙ ap (λ xs. count_by test (pending_nodes ws) + count_by test xs) (nodes-pending_at l cs)

  pub rows-joined : (test : Cell D → Bool) (ws : List (Pending D)) (l : ℕ) (cs : List (Cell D)) →
      count_by test (pending_rows (ws ++ pending_at l cs)) ≡ count_by test (pending_rows ws) + count_by test (leaf_part l cs)
  rows-joined test ws l cs =
      count-joined test (λ v. leaf_part v.level (v.cell ∷ [])) ws (pending_at l cs) ∙ ap (λ xs. count_by test (pending_rows ws) + count_by test xs) (rows-pending_at l cs)

  -- whether a cell names a key
  abbrev pub names_key : ℕ → Cell D → Bool
  names_key key c = nat_eq (key_of c) key

  abbrev pub has_id : ℤ → Cell D → Bool
  has_id id c = int_eq id c.number

  pub named-none : (key : ℕ) (cs : List (Cell D)) → All (λ c. key_of c ≢ key) cs → times_named key cs ≡ 0
  named-none key cs all = count-zero (names_key key) cs (λ k d within. ne_eqb _ _ (all k d within))

  pub named-find : (key : ℕ) (P : Cell D → Type 0) (cs : List (Cell D)) → All P cs → 0 < times_named key cs →
      (c : Cell D) × (key_of c ≡ key) × P c
  named-find key P cs all some =
      let found = count-find (names_key key) P cs all some in
      (found.0, eqb-true _ _ found.1, found.2)

  pub named-one : (key : ℕ) (c : Cell D) → key_of c ≡ key → times_named key (c ∷ []) ≡ 1
  named-one key c e = count-one_yes (names_key key) c (eq-eqb _ _ e)

  pub named-other : (key : ℕ) (c : Cell D) → key_of c ≢ key → times_named key (c ∷ []) ≡ 0
  named-other key c e = count-one_no (names_key key) c (ne_eqb _ _ e)
