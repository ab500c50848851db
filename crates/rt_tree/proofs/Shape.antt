-- How many nodes and rows a settled tree has from outside, and how high it is.
use Rattle.std.proofs.Common.{◌≡◌, ℕ, suc, ◌<◌, ◌≤◌, true, cond, ℤ, List, [], ◌∷◌, length, Option, None, Some, is_some, arith, refl, ap, sym, ◌∙◌, inl, inr}
use Rattle.std.specs.List.{All, sum_by}
use Rattle.std.specs.Option.{option_map_or}
use Rattle.std.specs.Ordering.{int_eq}
use Rattle.std.proofs.lemmas.Bool.{cases_lt, cases_Bool}
use Rattle.std.proofs.lemmas.Option.{none-some}
use Rattle.std.specs.Prelude.{int_le}
use Rattle.std.proofs.lemmas.List.{get_or_past, length-map}
use Rattle.std.proofs.lemmas.List.Elements.{All-head, All-tail}
use Rattle.std.proofs.lemmas.List.Sums.{sum_by-cons}
use Rattle.slab.specs.Slab.{get, slab_len}
use Rattle.indexmap.specs.IndexMap.{get as leaf_of, keys as ids_of, index_map_len}
use Rattle.rt_check.specs.declared.node.NodeRow.{NodeRow}
use Rattle.rt_check.specs.Conditions.{node_of}
use Rattle.rt_tree_node.specs.declared.arena.Arena.{Arena}
use Rattle.rt_tree_node.specs.Node.{NodeCells}
use Rattle.rt_tree_node.specs.Places.{level_of}
use Rattle.rt_tree_walk.specs.Search.{times}
use Rattle.rt_tree_walk.specs.Preorder.{tree_keys, number_in}
use Rattle.rt_tree_outside.specs.Outside.{row_entry, rising, inserted, outside}
use Rattle.rt_tree_node.proofs.Sums.{upto-list}
use Rattle.rt_tree_walk.proofs.Totals.{sum-listed}
use Rattle.rt_tree_walk.proofs.Reaching.{All_contained}
use Rattle.rt_tree_walk.proofs.Progress.{IsSettled}
use Rattle.rt_tree_walk.proofs.Listed.{HasNode, listed-there, listed-once, contained-from_times}
use Rattle.rt_tree_outside.proofs.Judged.{row, row-level, looked-up}
use Rattle.rt_tree_outside.proofs.Flawless.{numbering}
use Rattle.rt_tree.specs.Lists.{root_level}

-- ---- the row entries
inserted-long : (x : ℤ) (xs : List ℤ) → length (inserted x xs) ≡ suc (length xs)
inserted-long x [] = refl
inserted-long x (y ∷ ys) = elim (cases_Bool (int_le x y)) [
  | inl e ↦ ap (λ b. length (cond b (x ∷ y ∷ ys) (y ∷ inserted x ys))) e
  | inr e ↦ ap (λ b. length (cond b (x ∷ y ∷ ys) (y ∷ inserted x ys))) e ∙ ap suc (inserted-long x ys)
]

rising-long : (xs : List ℤ) → length (rising xs) ≡ length xs
rising-long [] = refl
rising-long (x ∷ xs) = inserted-long x (rising xs) ∙ ap suc (rising-long xs)

module _ {D : ℕ} where
  pub entries-long : (t : Arena D) → length (outside t).rows ≡ index_map_len t.leaves
  entries-long t =
      length-map (rising (ids_of t.leaves)) (row_entry (number_in (tree_keys t)) (leaf_of int_eq t.leaves)) ∙ rising-long (ids_of t.leaves)
      ∙ length-map t.leaves.entries (λ e. e.0)

  -- ---- the nodes
  module _ (t : Arena D) (s : IsSettled t) where
    pub root-high : root_level (outside t) ≡ t.level
    root-high =
        let is = numbering t s in
        let keys = tree_keys t in
        let number = number_in keys in
        ap (λ z. option_map_or (λ (n : NodeRow D). n.level) (node_of (outside t).nodes z) 0) (sym is.first)
        ∙ ap (λ o. option_map_or (λ (n : NodeRow D). n.level) o 0) (looked-up t s keys number is t.root t.level s.whole.linked.root_level)
        ∙ row-level t s keys number is t.root t.level s.whole.linked.root_level

    one : ℕ → ℕ
    one k = cond (is_some (get t.nodes k)) 1 0

    ones : (ks : List ℕ) → All (HasNode t s) ks → sum_by one ks ≡ length ks
    unfolding one
    ones [] all = refl
    ones (k ∷ ks) all =
        let node = All-head (HasNode t s) k ks all in
        let here : one k ≡ 1 = ap (λ b. cond b 1 0) (there (get t.nodes k) node.0 node.1) in
        omega (arith, here, sum_by-cons one k ks, ones ks (All-tail (HasNode t s) k ks all))
      where
        there : (o : Option (NodeCells D)) (l : ℕ) → level_of o ≡ Some l → is_some o ≡ true
        there None l e = absurd (none-some l e)
        there (Some n) l e = refl

    pub nodes-long : length (outside t).nodes ≡ slab_len t.nodes
    unfolding one
    nodes-long =
        let keys = tree_keys t in
        let past : (k : ℕ) → length t.nodes.slots ≤ k → one k ≡ 0 = λ k h. ap (λ o. cond (is_some o) 1 0) (get_or_past t.nodes.slots k None h) in
        let a = sum-listed one (length t.nodes.slots) keys past once-all some-listed in
        let b = upto-list (λ (o : Option (NodeCells D)). cond (is_some o) 1 0) t.nodes.slots None in
        let c = length-map keys (row t s keys (number_in keys) (numbering t s)) in
        omega (arith, a, b, c, ones keys (listed-there t s))
      where
        once-all : (k : ℕ) → times k (tree_keys t) ≤ 1
        once-all k = elim (cases_lt 0 (times k (tree_keys t))) [
          | inl h ↦
              let there = contained-from_times k (tree_keys t) h in
              let node = All_contained (HasNode t s) (tree_keys t) k (listed-there t s) there in
              omega (arith, listed-once t s k node.0 node.1)
          | inr none ↦ omega (arith, none)
        ]

        leveled : (o : Option (NodeCells D)) → 0 < cond (is_some o) 1 0 → (l : ℕ) × (level_of o ≡ Some l)
        leveled None h = absurd (omega arith)
        leveled (Some n) h = (n.level, refl)

        some-listed : (k : ℕ) → 0 < one k → 0 < times k (tree_keys t)
        some-listed k h = let l = leveled (get t.nodes k) h in omega (arith, listed-once t s k l.0 l.1)
