-- A tree has few levels.
use Rattle.std.proofs.Common.{◌≡◌, ◌≢◌, ℕ, zero, suc, ◌*◌, ◌<◌, ◌≤◌, ◌^◌, true, List, [], ◌∷◌, length, Option, Some, None, arith, refl, ap, sym, ◌∙◌, inl, inr}
use Rattle.std.proofs.Math.Nat.{pow-suc, pow-zero, pow-le-pow_left, mul-le-mul, suc-mul, mul_comm}
use Rattle.std.proofs.Math.Pow.{pow_mono}
use Rattle.std.specs.List.{All, flat_map, sum_by, count_by}
use Rattle.std.proofs.lemmas.Bool.{cases_lt}
use Rattle.std.proofs.lemmas.Nat.{pow_pos}
use Rattle.std.proofs.lemmas.Option.{none-some}
use Rattle.std.proofs.lemmas.List.{get_or_past}
use Rattle.std.proofs.lemmas.List.Elements.{All-head, All-tail}
use Rattle.std.proofs.lemmas.List.Sums.{sum_by-cons, sum_by-append}
use Rattle.slab.specs.Slab.{get}
use Rattle.rt_box.specs.Capacity.{least_fill}
use Rattle.rt_tree_node.specs.declared.arena.Arena.{Arena}
use Rattle.rt_tree_node.specs.declared.cell.Cell.{Cell}
use Rattle.rt_tree_node.specs.Node.{NodeCells}
use Rattle.rt_tree_node.specs.Places.{key_of, cells_at, leaf_cells_of, leaf_cells_at, level_at, parent_at, count_rows}
use Rattle.rt_tree_node.specs.Sound.{NamesChild}
use Rattle.rt_tree_node.specs.Whole.{IsBranched, row_count}
use Rattle.rt_tree_node.proofs.Places.{leaf-at_leaf}
use Rattle.rt_tree_place.proofs.Sums.{count-all}
use Rattle.rt_tree_walk.specs.Search.{times}
use Rattle.rt_tree_walk.specs.Preorder.{keys_in, tree_keys}
use Rattle.rt_tree_node.proofs.Sums.{upto-list}
use Rattle.rt_tree_walk.proofs.Totals.{sum-listed}
use Rattle.rt_tree_walk.proofs.Reaching.{All_contained, leaf-level}
use Rattle.rt_tree_walk.proofs.Progress.{IsSettled}
use Rattle.rt_tree_walk.proofs.Listed.{HasNode, listed-there, listed-once, contained-from_times}

module _ {D : ℕ} (t : Arena D) (s : IsSettled t) where
  least : ℕ
  least = least_fill t.capacity

  measure : Option (NodeCells D) → ℕ
  measure place = count_by (λ (c : Cell D). true) (leaf_cells_of place)

  rows_at : ℕ → ℕ
  rows_at k = measure (get t.nodes k)

  -- the rows below a node
  below : ℕ → ℕ → ℕ
  below l k = sum_by rows_at (keys_in t.nodes l k)

  all-below : below t.level t.root ≡ row_count t
  unfolding below rows_at measure
  all-below =
      let past : (k : ℕ) → length t.nodes.slots ≤ k → rows_at k ≡ 0 = λ k h. ap measure (get_or_past t.nodes.slots k None h) in
      let a = sum-listed rows_at (length t.nodes.slots) (tree_keys t) past once-all some-listed in
      let b = upto-list measure t.nodes.slots None in
      let w = ap (λ ws. count_rows (λ (c : Cell D). true) t.nodes ws) s.none in
      omega (arith, a, b, w)
    where
      once-all : (k : ℕ) → times k (tree_keys t) ≤ 1
      once-all k = elim (cases_lt 0 (times k (tree_keys t))) [
        | inl h ↦
            let node = All_contained (HasNode t s) (tree_keys t) k (listed-there t s) (contained-from_times k (tree_keys t) h) in
            omega (arith, listed-once t s k node.0 node.1)
        | inr none ↦ omega (arith, none)
      ]

      some-listed : (k : ℕ) → 0 < rows_at k → 0 < times k (tree_keys t)
      some-listed k h =
          let leaf = leaf-level t.nodes k (omega (arith, h, count-all (leaf_cells_at t.nodes k))) in
          omega (arith, listed-once t s k 0 leaf.0)

  -- cells have as many rows below them as all of their nodes
  below-cells : (l n : ℕ) → ((k : ℕ) → level_at t.nodes k ≡ Some l → k ≢ t.root → n ≤ below l k) → (j : ℕ) (cells : List (Cell D)) → All (NamesChild t.nodes l j) cells →
      length cells * n ≤ sum_by rows_at (flat_map (λ c. keys_in t.nodes l (key_of c)) cells)
  unfolding below
  below-cells l n each j [] all = omega arith
  below-cells l n each j (c ∷ cs) all =
      let child = All-head (NamesChild t.nodes l j) c cs all in
      let ne : key_of c ≢ t.root = λ e. none-some j (sym s.whole.linked.root_parent ∙ ap (parent_at t.nodes) (sym e) ∙ child.parent_is) in
      let more = below-cells l n each j cs (All-tail (NamesChild t.nodes l j) c cs all) in
      let both = sum_by-append rows_at (keys_in t.nodes l (key_of c)) (flat_map (λ c. keys_in t.nodes l (key_of c)) cs) in
      let mine = each (key_of c) child.names.level_is ne in
      omega (arith, more, both, mine, suc-mul (length cs) n)

  -- m to the power of the level, and once more, below each node but the root
  powers : (l k : ℕ) → level_at t.nodes k ≡ Some l → k ≢ t.root → least ^ suc l ≤ below l k
  unfolding below rows_at measure least
  powers zero k e ne =
      let cells = ap length (leaf-at_leaf t.nodes k e) in
      let filled = s.whole.fitted.least k 0 e ne (λ q. none-some k q) in
      let one : least ^ 1 ≡ least = pow-suc least 0 ∙ ap (λ n. n * least) (pow-zero least) ∙ omega arith in
      omega (arith, cells, filled, one, count-all (leaf_cells_at t.nodes k), sum_by-cons rows_at k [])
  powers (suc l) k e ne =
      let filled = s.whole.fitted.least k (suc l) e ne (λ q. none-some k q) in
      let cells = below-cells l (least ^ suc l) (powers l) k (cells_at t.nodes k) (s.whole.linked.children k l e) in
      let wide : least * least ^ suc l ≤ length (cells_at t.nodes k) * least ^ suc l = mul-le-mul filled (omega arith) in
      omega (
        arith,
        cells,
        wide,
        pow-suc least (suc l),
        mul_comm (least ^ suc l) least,
        sum_by-cons rows_at k (flat_map (λ c. keys_in t.nodes l (key_of c)) (cells_at t.nodes k)),
      )

  -- a root above the leaves has two cells, at least
  pub many-rows : IsBranched t → 1 ≤ t.level → 2 * least_fill t.capacity ^ t.level ≤ row_count t
  unfolding below rows_at measure least
  many-rows branched high = by t.level refl high
    where
      by : (l : ℕ) → t.level ≡ l → 1 ≤ l → 2 * least_fill t.capacity ^ l ≤ row_count t
      by zero e some = absurd (omega (arith, some))
      by (suc l) e some =
          let top : level_at t.nodes t.root ≡ Some (suc l) = s.whole.linked.root_level ∙ ap Some e in
          let cells = below-cells l (least ^ suc l) (powers l) t.root (cells_at t.nodes t.root) (s.whole.linked.children t.root l top) in
          let two : 2 ≤ length (cells_at t.nodes t.root) = branched (omega arith) in
          let wide : 2 * least ^ suc l ≤ length (cells_at t.nodes t.root) * least ^ suc l = mul-le-mul two (omega arith) in
          let all = all-below in
          let rows = ap (λ n. below n t.root) e in
          let here = sum_by-cons rows_at t.root (flat_map (λ c. keys_in t.nodes l (key_of c)) (cells_at t.nodes t.root)) in
          omega (arith, cells, wide, all, rows, here)

  -- so each level doubles the rows
  pub low-root : IsBranched t → (n : ℕ) → row_count t ≤ 2 ^ suc n → t.level ≤ n
  low-root branched n few = elim (cases_lt n t.level) [
    | inl high ↦
        let some : 2 ≤ least_fill t.capacity = let cap = s.whole.fitted.cap.0 in omega arith in
        let rows = many-rows branched (omega (arith, high)) in
        let base = pow-le-pow_left some t.level in
        let past = pow_mono {i = suc n} {j = t.level} (omega (arith, high)) in
        absurd (omega (arith, rows, base, past, pow_pos t.level, few))
    | inr low ↦ low
  ]
