-- Cells that are kept as numbers and boxes.
use Rattle.std.proofs.Common.{◌≡◌, ℕ, zero, suc, ℤ, List, [], ◌∷◌, ◌++◌, length, map, get_or, set, Option, arith, refl, ap, ◌∙◌, sym}
use Rattle.std.specs.List.{remove}
use Rattle.rt_box.specs.declared.interval.Interval.{Interval}
use Rattle.rt_tree_node.specs.declared.cell.Cell.{Cell}
use Rattle.rt_tree_node.specs.Node.{NodeCells}
use Rattle.rt_tree_node.specs.NodeInside.{paired}

module _ (D : ℕ) where
  pub length-paired : (ns : List ℤ) (bs : List (List Interval)) → length ns ≡ length bs → length (paired {D = D} ns bs) ≡ length ns
  length-paired [] bs e = refl
  length-paired (n ∷ ns) [] e = absurd (omega arith)
  length-paired (n ∷ ns) (b ∷ bs) e = ap suc (length-paired ns bs (omega arith))

  pub numbers-paired : (ns : List ℤ) (bs : List (List Interval)) → length ns ≡ length bs → map (λ c. c.number) (paired {D = D} ns bs) ≡ ns
  numbers-paired [] bs e = refl
  numbers-paired (n ∷ ns) [] e = absurd (omega arith)
  numbers-paired (n ∷ ns) (b ∷ bs) e = ap (λ xs. n ∷ xs) (numbers-paired ns bs (omega arith))

  pub rects-paired : (ns : List ℤ) (bs : List (List Interval)) → length ns ≡ length bs → map (λ c. c.rect) (paired {D = D} ns bs) ≡ bs
  rects-paired [] [] e = refl
  rects-paired [] (b ∷ bs) e = absurd (omega arith)
  rects-paired (n ∷ ns) [] e = absurd (omega arith)
  rects-paired (n ∷ ns) (b ∷ bs) e = ap (λ xs. b ∷ xs) (rects-paired ns bs (omega arith))

module _ {D : ℕ} where
  pub get_or-paired : (ns : List ℤ) (bs : List (List Interval)) (k : ℕ) (c : Cell D) → length ns ≡ length bs →
      get_or (paired ns bs) k c ≡ record { number = get_or ns k c.number; rect = get_or bs k c.rect }
  get_or-paired [] [] k c e = refl
  get_or-paired [] (b ∷ bs) k c e = absurd (omega arith)
  get_or-paired (n ∷ ns) [] k c e = absurd (omega arith)
  get_or-paired (n ∷ ns) (b ∷ bs) zero c e = refl
  get_or-paired (n ∷ ns) (b ∷ bs) (suc k) c e = get_or-paired ns bs k c (omega arith)

  pub paired-push : (ns : List ℤ) (bs : List (List Interval)) (n : ℤ) (b : List Interval) → length ns ≡ length bs →
      paired {D = D} (ns ++ n ∷ []) (bs ++ b ∷ []) ≡ paired ns bs ++ record { number = n; rect = b } ∷ []
  paired-push [] [] n b e = refl
  paired-push [] (c ∷ bs) n b e = absurd (omega arith)
  paired-push (m ∷ ns) [] n b e = absurd (omega arith)
  paired-push (m ∷ ns) (c ∷ bs) n b e = ap (λ xs. record { number = m; rect = c } ∷ xs) (paired-push ns bs n b (omega arith))

  pub paired-set : (ns : List ℤ) (bs : List (List Interval)) (at : ℕ) (n : ℤ) (b : List Interval) → length ns ≡ length bs →
      paired {D = D} (set ns at n) (set bs at b) ≡ set (paired ns bs) at record { number = n; rect = b }
  paired-set [] [] at n b e = refl
  paired-set [] (c ∷ bs) at n b e = absurd (omega arith)
  paired-set (m ∷ ns) [] at n b e = absurd (omega arith)
  paired-set (m ∷ ns) (c ∷ bs) zero n b e = refl
  paired-set (m ∷ ns) (c ∷ bs) (suc at) n b e = ap (λ xs. record { number = m; rect = c } ∷ xs) (paired-set ns bs at n b (omega arith))

  pub paired-remove : (ns : List ℤ) (bs : List (List Interval)) (at : ℕ) → length ns ≡ length bs →
      paired {D = D} (remove ns at) (remove bs at) ≡ remove (paired ns bs) at
  paired-remove [] [] zero e = refl
  paired-remove [] [] (suc at) e = refl
  paired-remove [] (c ∷ bs) at e = absurd (omega arith)
  paired-remove (m ∷ ns) [] at e = absurd (omega arith)
  paired-remove (m ∷ ns) (c ∷ bs) zero e = refl
  paired-remove (m ∷ ns) (c ∷ bs) (suc at) e = ap (λ xs. record { number = m; rect = c } ∷ xs) (paired-remove ns bs at (omega arith))

  abbrev pub node_with : ℕ → Option ℕ → List (Cell D) → NodeCells D
  node_with level parent cells = record { level = level; parent = parent; cells = cells }

  -- a change of the cells, seen from the node
  pub node-changed : (change : List (Cell D) → List (Cell D)) (level : ℕ) (parent : Option ℕ) (cells new : List (Cell D)) (n : NodeCells D) →
      node_with level parent cells ≡ n → new ≡ change cells → node_with level parent new ≡ record n { cells = change n.cells }
  node-changed change level parent cells new n is e =
      let f : NodeCells D → NodeCells D = λ m. record m { cells = change m.cells } in
      ap (node_with level parent) e ∙ ap f is

  pub paired-read : (ns : List ℤ) (bs : List (List Interval)) (at : ℕ) (n : ℤ) (b : List Interval) → length ns ≡ length bs →
      n ≡ get_or ns at n → b ≡ get_or bs at b →
      ◌≡◌ {A = Cell D} record { number = n; rect = b } (get_or (paired ns bs) at record { number = n; rect = b })
  paired-read ns bs at n b e n_is b_is =
      ap (λ m. record { number = m; rect = b }) n_is ∙ ap (λ r. record { number = get_or ns at n; rect = r }) b_is
      ∙ sym (get_or-paired ns bs at record { number = n; rect = b } e)
