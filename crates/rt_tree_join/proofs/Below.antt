-- What is below the nodes of two trees, and what the opening of a node leaves due.
use Rattle.std.proofs.Common.{◌≡◌, ℕ, zero, suc, ◌+◌, ◌-◌, ◌*◌, ◌<◌, ◌≤◌, Bool, false, List, [], ◌∷◌, ◌++◌, length, map, get_or, Contains, Some, None, append-nil, arith, refl, ap, sym, ◌∙◌, subst}
use Rattle.std.specs.List.{All, count_by, sum_by, filter, flat_map}
use Rattle.std.proofs.lemmas.Option.{none-some, same_Some}
use Rattle.std.proofs.lemmas.List.Concat.{flat_map-append, length-flat_map}
use Rattle.std.proofs.lemmas.List.Elements.{All-nil, All-weaker, All-filter, All-contains, Contains-get_or}
use Rattle.slab.specs.Slab.{get}
use Rattle.rt_box.specs.declared.interval.Interval.{Interval}
use Rattle.rt_box.specs.Rect.{Holds}
use Rattle.rt_tree_node.specs.declared.arena.Arena.{Arena}
use Rattle.rt_tree_node.specs.declared.cell.Cell.{Cell}
use Rattle.rt_tree_node.specs.Node.{NodeCells}
use Rattle.rt_tree_node.specs.Places.{key_of, cells_at, level_at, hull_at, level_of, cells_of}
use Rattle.rt_tree_node.proofs.Places.{leaf-at_leaf, leaf-at_inner}
use Rattle.rt_tree_walk.specs.declared.searching.Row.{Row}
use Rattle.rt_tree_walk.specs.Search.{row_of}
use Rattle.rt_tree_walk.specs.Preorder.{keys_in}
use Rattle.rt_tree_walk.proofs.Judging.{All-mapped}
use Rattle.rt_tree_walk.proofs.Listed.{levels-below}
use Rattle.rt_tree_walk.proofs.Progress.{IsSettled}
use Rattle.rt_tree_walk.proofs.Below.{rows_under, rows-leaf, rows-inner, rows-none, child-hull, held-below}
use Rattle.rt_tree_join.specs.declared.joining.Pair.{Pair}
use Rattle.rt_tree_join.specs.declared.due.Due.{Due}
use Rattle.rt_tree_join.specs.declared.due.Side.TheVariants.{Left, Right}
use Rattle.rt_tree_join.specs.Join.{touch, touching_pairs}
use Rattle.rt_tree_join.specs.Due.{subtree_of, child_due, opened, AreHeld, keys_of_subtree, rows_of_subtree, IsSubtree, IsDue, count_due, steps_due, Goes}
use Rattle.rt_tree_join.proofs.Boxes.{touch-apart, touch-apart_swapped}
use Rattle.rt_tree_join.proofs.Counting.{sum-filtered, sum-filter_le, sum-mapped, sum-scaled, sum-scaled_left, additive, left-joined, right-joined, right-none, pairs-apart}

module _ {D : ℕ} where
  -- ---- one tree
  pub keys-inner : (t : Arena D) (l k : ℕ) → length (keys_in t.nodes (suc l) k) ≡ suc (sum_by (λ c. length (keys_in t.nodes l (key_of c))) (cells_at t.nodes k))
  keys-inner t l k = ap suc (length-flat_map (λ c. keys_in t.nodes l (key_of c)) (cells_at t.nodes k))

  pub keys-some : (t : Arena D) (l k : ℕ) → 1 ≤ length (keys_in t.nodes l k)
  keys-some t zero k = omega arith
  keys-some t (suc l) k = omega (arith, keys-inner t l k)

  pub node-level : (t : Arena D) (k l : ℕ) (node : NodeCells D) → get t.nodes k ≡ Some node → level_at t.nodes k ≡ Some l → node.level ≡ l
  node-level t k l node got at = same_Some node.level l (sym (ap level_of got) ∙ at)

  module _ (t : Arena D) (s : IsSettled t) where
    -- each child with all that is below it
    pub children : (l k : ℕ) → level_at t.nodes k ≡ Some (suc l) → All (λ c. IsSubtree t (subtree_of l c)) (cells_at t.nodes k)
    children l k at = λ i d h.
        let c = get_or (cells_at t.nodes k) i d in
        let low : level_at t.nodes (key_of c) ≡ Some l = levels-below t s k l at i d h in
        record {
          there = low;
          holds = subst (λ (b : List Interval). All (λ r. Holds b r.rect) (rows_under t.nodes l (key_of c)))
              (sym (child-hull t s k l at c (Contains-get_or (cells_at t.nodes k) i d h))) (held-below t s l (key_of c) low);
        }

    pub whole-tree : IsSubtree t record { key = t.root; level = t.level; rect = hull_at t.nodes t.root }
    whole-tree = record { there = s.whole.linked.root_level; holds = held-below t s t.level t.root s.whole.linked.root_level }

  -- ---- two trees
  module _ (t u : Arena D) (s : IsSettled t) (v : IsSettled u) (next : Due D) (so : IsDue t u next) where
    module _ (l : ℕ) (node : NodeCells D) (got : get t.nodes next.left.key ≡ Some node) (high : next.left.level ≡ suc l) (pairs : List Pair) (due due1 : List (Due D))
        (is : due1 ≡ due ++ opened Left node next.right) where
      at-left : level_at t.nodes next.left.key ≡ Some (suc l)
      at-left = so.left.there ∙ ap Some high

      cells-left : cells_at t.nodes next.left.key ≡ node.cells
      cells-left = ap cells_of got

      down-left : node.level - 1 ≡ l
      down-left = omega (arith, node-level t next.left.key (suc l) node got at-left)

      test-left : Cell D → Bool
      test-left c = touch next.right.rect c.rect

      due-left : Cell D → Due D
      due-left c = child_due Left l next.right c

      dues-left : All (λ c. IsDue t u (due-left c)) node.cells
      unfolding due-left
      dues-left = All-weaker (λ c. IsSubtree t (subtree_of l c)) (λ c. IsDue t u (child_due Left l next.right c)) (λ c sub. record { left = sub; right = so.right }) node.cells
          (subst (All (λ c. IsSubtree t (subtree_of l c))) cells-left (children t s l next.left.key at-left))

      more-left : List (Due D)
      more-left = map due-left (filter test-left node.cells)

      counted-left : (test : Pair → Bool) → sum_by (count_due t u test) more-left ≡ count_due t u test next
      unfolding more-left due-left test-left
      counted-left test =
          let f : Cell D → ℕ = λ c. count_due t u test (child_due Left l next.right c) in
          let others = rows_of_subtree u next.right in
          let n : List (Row D) → ℕ = λ rows. count_by test (touching_pairs rows others) in
          let apart : All (λ c. touch next.right.rect c.rect ≡ false → f c ≡ 0) node.cells = λ i d h e.
          let c = get_or node.cells i d in
          ap (count_by test) (pairs-apart c.rect next.right.rect (λ a b p q. touch-apart_swapped c.rect next.right.rect a b p q e) (rows_under t.nodes l (key_of c)) others
          (dues-left i d h).left.holds so.right.holds) in
          sum-mapped (count_due t u test) (child_due Left l next.right) (filter (λ c. touch next.right.rect c.rect) node.cells)
          ∙ sum-filtered f (λ c. touch next.right.rect c.rect) node.cells apart
          ∙ sym (additive n refl (left-joined test others) (λ c. rows_under t.nodes l (key_of c)) node.cells)
          ∙ ap (λ cells. n (flat_map (λ c. rows_under t.nodes l (key_of c)) cells)) (sym cells-left)
          ∙ ap n (sym (rows-inner t l next.left.key at-left))
          ∙ ap (λ m. n (rows_under t.nodes m next.left.key)) (sym high)

      fewer-left : sum_by (steps_due t u) more-left < steps_due t u next
      unfolding more-left due-left test-left
      fewer-left =
          let below : Cell D → ℕ = λ c. length (keys_in t.nodes l (key_of c)) in
          let m = length (keys_of_subtree u next.right) in
          let some : 1 ≤ m = keys-some u next.right.level next.right.key in
          let mapped = sum-mapped (steps_due t u) (child_due Left l next.right) (filter (λ c. touch next.right.rect c.rect) node.cells) in
          let few = sum-filter_le (λ c. below c * m) (λ c. touch next.right.rect c.rect) node.cells in
          let scaled = sum-scaled below m node.cells in
          let own : steps_due t u next ≡ m + sum_by below node.cells * m =
          ap (λ k. length (keys_in t.nodes k next.left.key) * m) high
          ∙ ap (λ k. k * m) (keys-inner t l next.left.key ∙ ap (λ cells. suc (sum_by below cells)) cells-left) ∙ omega arith in
          omega (arith, some, mapped, few, scaled, own)

      pub goes-left : Goes t u next pairs pairs due due1
      unfolding more-left due-left test-left
      goes-left = record {
        more = more-left;
        is = is ∙ ap (λ k. due ++ map (child_due Left k next.right) (filter (λ c. touch next.right.rect c.rect) node.cells)) down-left;
        nodes = All-mapped (IsDue t u) due-left (filter test-left node.cells) (All-filter test-left (λ c. IsDue t u (due-left c)) node.cells dues-left);
        each = λ test. ap (λ k. count_by test pairs + k) (counted-left test);
        fewer = fewer-left;
      }

    module _ (l : ℕ) (node : NodeCells D) (got : get u.nodes next.right.key ≡ Some node) (high : next.right.level ≡ suc l) (pairs : List Pair) (due due1 : List (Due D))
        (is : due1 ≡ due ++ opened Right node next.left) where
      at-right : level_at u.nodes next.right.key ≡ Some (suc l)
      at-right = so.right.there ∙ ap Some high

      cells-right : cells_at u.nodes next.right.key ≡ node.cells
      cells-right = ap cells_of got

      down-right : node.level - 1 ≡ l
      down-right = omega (arith, node-level u next.right.key (suc l) node got at-right)

      dues-right : All (λ c. IsDue t u (child_due Right l next.left c)) node.cells
      dues-right = All-weaker (λ c. IsSubtree u (subtree_of l c)) (λ c. IsDue t u (child_due Right l next.left c)) (λ c sub. record { left = so.left; right = sub }) node.cells
          (subst (All (λ c. IsSubtree u (subtree_of l c))) cells-right (children u v l next.right.key at-right))

      more-right : List (Due D)
      more-right = map (child_due Right l next.left) (filter (λ c. touch next.left.rect c.rect) node.cells)

      counted-right : (test : Pair → Bool) → sum_by (count_due t u test) more-right ≡ count_due t u test next
      unfolding more-right
      counted-right test =
          let f : Cell D → ℕ = λ c. count_due t u test (child_due Right l next.left c) in
          let rows = rows_of_subtree t next.left in
          let n : List (Row D) → ℕ = λ others. count_by test (touching_pairs rows others) in
          let apart : All (λ c. touch next.left.rect c.rect ≡ false → f c ≡ 0) node.cells = λ i d h e.
          let c = get_or node.cells i d in
          ap (count_by test) (pairs-apart next.left.rect c.rect (λ a b p q. touch-apart next.left.rect c.rect a b p q e) rows (rows_under u.nodes l (key_of c))
          so.left.holds (dues-right i d h).right.holds) in
          sum-mapped (count_due t u test) (child_due Right l next.left) (filter (λ c. touch next.left.rect c.rect) node.cells)
          ∙ sum-filtered f (λ c. touch next.left.rect c.rect) node.cells apart
          ∙ sym (additive n (ap (count_by test) (right-none rows)) (right-joined test rows) (λ c. rows_under u.nodes l (key_of c)) node.cells)
          ∙ ap (λ cells. n (flat_map (λ c. rows_under u.nodes l (key_of c)) cells)) (sym cells-right)
          ∙ ap n (sym (rows-inner u l next.right.key at-right))
          ∙ ap (λ m. n (rows_under u.nodes m next.right.key)) (sym high)

      fewer-right : sum_by (steps_due t u) more-right < steps_due t u next
      unfolding more-right
      fewer-right =
          let below : Cell D → ℕ = λ c. length (keys_in u.nodes l (key_of c)) in
          let m = length (keys_of_subtree t next.left) in
          let some : 1 ≤ m = keys-some t next.left.level next.left.key in
          let mapped = sum-mapped (steps_due t u) (child_due Right l next.left) (filter (λ c. touch next.left.rect c.rect) node.cells) in
          let few = sum-filter_le (λ c. m * below c) (λ c. touch next.left.rect c.rect) node.cells in
          let scaled = sum-scaled_left below m node.cells in
          let own : steps_due t u next ≡ m + m * sum_by below node.cells =
          ap (λ k. m * length (keys_in u.nodes k next.right.key)) high
          ∙ ap (λ k. m * k) (keys-inner u l next.right.key ∙ ap (λ cells. suc (sum_by below cells)) cells-right) ∙ omega arith in
          omega (arith, some, mapped, few, scaled, own)

      pub goes-right : Goes t u next pairs pairs due due1
      unfolding more-right
      goes-right = record {
        more = more-right;
        is = is ∙ ap (λ k. due ++ map (child_due Right k next.left) (filter (λ c. touch next.left.rect c.rect) node.cells)) down-right;
        nodes = All-mapped (IsDue t u) (child_due Right l next.left) (filter (λ c. touch next.left.rect c.rect) node.cells)
            (All-filter (λ c. touch next.left.rect c.rect) (λ c. IsDue t u (child_due Right l next.left c)) node.cells dues-right);
        each = λ test. ap (λ k. count_by test pairs + k) (counted-right test);
        fewer = fewer-right;
      }

    -- ---- two leaves
    module _ (node other : NodeCells D) (got : get t.nodes next.left.key ≡ Some node) (got_other : get u.nodes next.right.key ≡ Some other)
        (low : next.left.level ≡ 0) (low_other : next.right.level ≡ 0) where
      rows-left : rows_of_subtree t next.left ≡ map row_of node.cells
      rows-left = ap (λ n. rows_under t.nodes n next.left.key) low ∙ rows-leaf t.nodes next.left.key (so.left.there ∙ ap Some low) ∙ ap (λ o. map row_of (cells_of o)) got

      rows-right : rows_of_subtree u next.right ≡ map row_of other.cells
      rows-right = ap (λ n. rows_under u.nodes n next.right.key) low_other ∙ rows-leaf u.nodes next.right.key (so.right.there ∙ ap Some low_other) ∙ ap (λ o. map row_of (cells_of o)) got_other

      pub held-left : AreHeld next.left.rect node.cells
      held-left = subst (All (λ r. Holds next.left.rect r.rect)) rows-left so.left.holds

      pub held-right : AreHeld next.right.rect other.cells
      held-right = subst (All (λ r. Holds next.right.rect r.rect)) rows-right so.right.holds

      pub goes-leaves : (pairs pairs1 : List Pair) (due : List (Due D)) →
          ((test : Pair → Bool) → count_by test pairs1 ≡ count_by test pairs + count_by test (touching_pairs (map row_of node.cells) (map row_of other.cells))) →
          Goes t u next pairs pairs1 due due
      goes-leaves pairs pairs1 due is = record {
        more = [];
        is = sym (append-nil due);
        nodes = All-nil (IsDue t u);
        each = λ test.
            let all = ap (λ rows. count_by test (touching_pairs rows (map row_of other.cells))) (sym rows-left)
            ∙ ap (λ others. count_by test (touching_pairs (rows_of_subtree t next.left) others)) (sym rows-right) in
            omega (arith, is test, all);
        fewer =
            let one = keys-some t next.left.level next.left.key in
            let two = keys-some u next.right.level next.right.key in
            some-product (length (keys_of_subtree t next.left)) (length (keys_of_subtree u next.right)) one two;
      }
        where
          some-product : (m n : ℕ) → 1 ≤ m → 1 ≤ n → 0 < m * n
          some-product zero n h k = absurd (omega arith)
          some-product (suc m) n h k = let e : suc m * n ≡ n + m * n = omega arith in omega (arith, e)
