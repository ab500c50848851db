-- The rows below a node: its box holds them, and no id is there twice.
use Rattle.std.proofs.Common.{◌≡◌, ℕ, zero, suc, ◌<◌, ◌≤◌, ℤ, List, [], ◌∷◌, ◌++◌, length, map, get_or, Contains, Option, Some, None, nat_eq, append-nil, arith, refl, ap, sym, ◌∙◌, subst, inl, inr}
use Rattle.std.specs.List.{All, count_by, sum_by, flat_map}
use Rattle.std.specs.Ordering.{int_eq}
use Rattle.std.proofs.lemmas.Bool.{cases_lt}
use Rattle.std.proofs.lemmas.Option.{none-some, same_Some}
use Rattle.std.proofs.lemmas.List.{get_or_past}
use Rattle.std.proofs.lemmas.List.Concat.{flat_map-append}
use Rattle.std.proofs.lemmas.List.Elements.{All-nil, All-head, All-tail, All-append, All-map, All-same, All-weaker, All-contains, Contains-get_or}
use Rattle.std.proofs.Math.Path.{fun_ext}
use Rattle.std.proofs.lemmas.List.Sums.{count_by-le-length, sum_by-cons}
use Rattle.indexmap.specs.IndexMap.{get as leaf_of}
use Rattle.slab.specs.Slab.{Slab, get}
use Rattle.rt_box.specs.declared.interval.Interval.{Interval}
use Rattle.rt_box.specs.Rect.{Holds}
use Rattle.rt_box.proofs.Holding.{Holds_trans}
use Rattle.rt_tree_node.specs.declared.arena.Arena.{Arena}
use Rattle.rt_tree_node.specs.declared.cell.Cell.{Cell}
use Rattle.rt_tree_node.specs.Node.{NodeCells}
use Rattle.rt_tree_node.specs.Places.{key_of, cells_at, leaf_cells_of, leaf_cells_at, level_at, hull_at, times_listed}
use Rattle.rt_tree_node.proofs.Places.{leaf-at_leaf, leaf-at_inner}
use Rattle.rt_tree_walk.specs.declared.searching.Row.{Row}
use Rattle.rt_tree_walk.specs.Search.{times, row_of}
use Rattle.rt_tree_walk.specs.Preorder.{keys_in, tree_keys}
use Rattle.rt_tree_node.proofs.Sums.{upto}
use Rattle.rt_tree_walk.proofs.Judging.{count-joined}
use Rattle.rt_tree_walk.proofs.Totals.{times-one, sum-listed, sum-listed_le}
use Rattle.rt_tree_walk.proofs.Judging.{count-mapped}
use Rattle.rt_tree_walk.proofs.Reaching.{hull-contained}
use Rattle.rt_tree_walk.proofs.Progress.{IsSettled}
use Rattle.rt_tree_walk.proofs.Listed.{levels-below, listed-there, listed-once, contained-from_times}
use Rattle.rt_tree_walk.specs.Rows.{rows_in}

flat-flat : {X Y Z : Type 0} (f : Y → List Z) (g : X → List Y) (xs : List X) → flat_map f (flat_map g xs) ≡ flat_map (λ x. flat_map f (g x)) xs
flat-flat f g [] = refl
flat-flat f g (x ∷ xs) = flat_map-append f (g x) (flat_map g xs) ∙ ap (λ l. flat_map f (g x) ++ l) (flat-flat f g xs)

module _ {D : ℕ} where
  abbrev pub leaf_rows : Slab (NodeCells D) → ℕ → List (Row D)
  leaf_rows a key = map row_of (leaf_cells_at a key)

  -- the rows of a node of the level, and of those below it
  abbrev pub rows_under : Slab (NodeCells D) → ℕ → ℕ → List (Row D)
  rows_under a l key = flat_map (leaf_rows a) (keys_in a l key)

  -- a leaf's rows are its cells
  pub rows-leaf : (a : Slab (NodeCells D)) (k : ℕ) → level_at a k ≡ Some 0 → rows_under a 0 k ≡ map row_of (cells_at a k)
  rows-leaf a k at = append-nil (leaf_rows a k) ∙ ap (map row_of) (leaf-at_leaf a k at)

  -- those of an inner node are its children's
  pub rows-inner : (t : Arena D) (l k : ℕ) → level_at t.nodes k ≡ Some (suc l) →
      rows_under t.nodes (suc l) k ≡ flat_map (λ c. rows_under t.nodes l (key_of c)) (cells_at t.nodes k)
  rows-inner t l k at =
      ap (λ cells. map row_of cells ++ flat_map (leaf_rows t.nodes) (flat_map (λ c. keys_in t.nodes l (key_of c)) (cells_at t.nodes k))) (leaf-at_inner t.nodes k l at)
      ∙ flat-flat (leaf_rows t.nodes) (λ c. keys_in t.nodes l (key_of c)) (cells_at t.nodes k)

  pub rows-none : (t : Arena D) (l k : ℕ) → level_at t.nodes k ≡ Some l → cells_at t.nodes k ≡ [] → rows_under t.nodes l k ≡ []
  rows-none t zero k at e = rows-leaf t.nodes k at ∙ ap (map row_of) e
  rows-none t (suc l) k at e = rows-inner t l k at ∙ ap (flat_map (λ c. rows_under t.nodes l (key_of c))) e

  -- ---- a node's box holds the rows below it
  module _ (t : Arena D) (s : IsSettled t) where
    abbrev a : Slab (NodeCells D)
    a = t.nodes

    pub child-hull : (k l : ℕ) → level_at a k ≡ Some (suc l) → (c : Cell D) → Contains (cells_at a k) c → c.rect ≡ hull_at a (key_of c)
    child-hull k l at c there =
        All-contains (λ x. (None ≡ Some (key_of x) → ⊥) → x.rect ≡ hull_at a (key_of x)) (cells_at a k) c (s.whole.fitted.hulls k l at) there (none-some (key_of c))

    abbrev Within : ℕ → Row D → Type 0
    Within k r = Holds (hull_at a k) r.rect

    held-children : (l k : ℕ) → ((j : ℕ) → level_at a j ≡ Some l → All (Within j) (rows_under a l j)) → (cells : List (Cell D)) →
        All (λ c. level_at a (key_of c) ≡ Some l) cells → All (λ c. Holds (hull_at a k) (hull_at a (key_of c))) cells →
        All (Within k) (flat_map (leaf_rows a) (flat_map (λ c. keys_in a l (key_of c)) cells))
    held-children l k by [] all held = All-nil (Within k)
    held-children l k by (c ∷ cs) all held =
        let j = key_of c in
        let one : All (Within k) (rows_under a l j) =
        All-weaker (Within j) (Within k) (λ r h. Holds_trans (hull_at a k) (hull_at a j) r.rect (All-head (λ x. Holds (hull_at a k) (hull_at a (key_of x))) c cs held) h)
        (rows_under a l j) (by j (All-head (λ x. level_at a (key_of x) ≡ Some l) c cs all)) in
        let rest = held-children l k by cs (All-tail (λ x. level_at a (key_of x) ≡ Some l) c cs all) (All-tail (λ x. Holds (hull_at a k) (hull_at a (key_of x))) c cs held) in
        All-same (Within k) (flat_map (leaf_rows a) (keys_in a l j ++ flat_map (λ c. keys_in a l (key_of c)) cs))
        (rows_under a l j ++ flat_map (leaf_rows a) (flat_map (λ c. keys_in a l (key_of c)) cs))
        (flat_map-append (leaf_rows a) (keys_in a l j) (flat_map (λ c. keys_in a l (key_of c)) cs))
        (All-append (Within k) (rows_under a l j) (flat_map (leaf_rows a) (flat_map (λ c. keys_in a l (key_of c)) cs)) one rest)

    pub held-below : (l k : ℕ) → level_at a k ≡ Some l → All (Within k) (rows_under a l k)
    held-below zero k at =
        All-same (Within k) (rows_under a 0 k) (map row_of (cells_at a k)) (append-nil (leaf_rows a k) ∙ ap (map row_of) (leaf-at_leaf a k at))
        (All-map (Within k) row_of (cells_at a k) (λ i d h. hull-contained t s.whole k (get_or (cells_at a k) i d) (Contains-get_or (cells_at a k) i d h)))
    held-below (suc l) k at =
        All-same (Within k) (rows_under a (suc l) k) (flat_map (leaf_rows a) (flat_map (λ c. keys_in a l (key_of c)) (cells_at a k)))
        (ap (λ cells. map row_of cells ++ flat_map (leaf_rows a) (flat_map (λ c. keys_in a l (key_of c)) (cells_at a k))) (leaf-at_inner a k l at))
        (held-children l k (held-below l) (cells_at a k) (levels-below t s k l at)
        (λ i d h.
        let c = get_or (cells_at a k) i d in
        let there = Contains-get_or (cells_at a k) i d h in
        subst (λ (b : List Interval). Holds (hull_at a k) b) (child-hull k l at c there) (hull-contained t s.whole k c there)))

  -- ---- no id is listed twice
  module _ (t : Arena D) (s : IsSettled t) where
    once-listed : (k : ℕ) → times k (tree_keys t) ≤ 1
    once-listed k = elim (cases_lt 0 (times k (tree_keys t))) [
      | inl some ↦ let node = All-contains (λ j. (l : ℕ) × (level_at t.nodes j ≡ Some l)) (tree_keys t) k (listed-there t s) (contained-from_times k (tree_keys t) some) in omega (arith, listed-once t s k node.0 node.1)
      | inr none ↦ omega arith
    ]

    module _ (id : ℤ) where
      has : Option (NodeCells D) → ℕ
      has o = times_listed id (leaf_cells_of o)

      counted : count_by (λ (r : Row D). int_eq id r.id) (rows_in t) ≡ sum_by (λ k. has (get t.nodes k)) (tree_keys t)
      unfolding has
      counted =
          count-joined (λ (r : Row D). int_eq id r.id) (leaf_rows t.nodes) (tree_keys t)
          ∙ ap (λ (g : ℕ → ℕ). sum_by g (tree_keys t))
          (fun_ext (λ k. count-mapped (λ (r : Row D). int_eq id r.id) row_of (λ c. int_eq id c.number) (leaf_cells_at t.nodes k) (λ i d h. refl)))

      past : (k : ℕ) → length t.nodes.slots ≤ k → has (get t.nodes k) ≡ 0
      unfolding has
      past k h = ap (λ o. times_listed id (leaf_cells_of o)) (get_or_past t.nodes.slots k None h)

      least : sum_by (λ k. has (get t.nodes k)) (tree_keys t) ≤ upto (λ k. has (get t.nodes k)) (length t.nodes.slots)
      least = sum-listed_le (λ k. has (get t.nodes k)) (length t.nodes.slots) (tree_keys t) past once-listed

      home : (k : ℕ) → 0 < has (get t.nodes k) → leaf_of int_eq t.leaves id ≡ Some k
      unfolding has
      home k some = s.whole.homes.home k id some

      few : (k : ℕ) → leaf_of int_eq t.leaves id ≡ Some k → has (get t.nodes k) ≤ 1
      unfolding has
      few k e = let h = s.whole.homes.there k id e in omega (arith, h)

      -- the same over the keys of all leaves with the id
      total : (keys : List ℕ) → ((k : ℕ) → times k keys ≤ 1) → ((k : ℕ) → 0 < has (get t.nodes k) → 0 < times k keys) →
          sum_by (λ k. has (get t.nodes k)) keys ≡ upto (λ k. has (get t.nodes k)) (length t.nodes.slots)
      total keys once all = sum-listed (λ k. has (get t.nodes k)) (length t.nodes.slots) keys past once all

      pub ids-apart : count_by (λ (r : Row D). int_eq id r.id) (rows_in t) ≤ 1
      ids-apart = by (leaf_of int_eq t.leaves id) refl
        where
          by : (o : Option ℕ) → leaf_of int_eq t.leaves id ≡ o → count_by (λ (r : Row D). int_eq id r.id) (rows_in t) ≤ 1
          by None e =
              let none = total [] (λ k. omega arith) (λ k some. absurd (none-some k (sym e ∙ home k some))) in
              omega (arith, counted, least, none)
          by (Some k) e =
              let one = total (k ∷ []) (λ j. omega (arith, count_by-le-length (λ x. nat_eq x j) (k ∷ []))) (λ j some. omega (arith, times-one j k (same_Some k j (sym e ∙ home j some)))) in
              omega (arith, counted, least, one, few k e, sum_by-cons (λ j. has (get t.nodes j)) k [])
