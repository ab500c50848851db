-- What a tree keeps where a row came or left.
use Rattle.std.proofs.Common.{◌≡◌, ℕ, ◌+◌, ◌-◌, ◌*◌, ◌<◌, ◌≤◌, ◌^◌, Bool, true, cond, ℤ, List, length, Option, Some, None, is_some, IsSome, vec_capacity, arith, refl, ap, sym, ◌∙◌, subst}
use Rattle.std.proofs.Math.Nat.{mul-le-mul_left}
use Rattle.std.specs.Ordering.{int_eq}
use Rattle.std.proofs.lemmas.Option.{none-some}
use Rattle.std.proofs.lemmas.Bool.{true≢false}
use Rattle.indexmap.specs.IndexMap.{get as leaf_of}
use Rattle.rt_box.specs.declared.interval.Interval.{Interval}
use Rattle.rt_box.specs.Capacity.{least_fill}
use Rattle.rt_tree_node.specs.declared.arena.Arena.{Arena}
use Rattle.rt_tree_node.specs.declared.arena.Work.{Work}
use Rattle.rt_tree_node.specs.Whole.{HasRoom, row_count}
use Rattle.rt_tree_place.specs.Insertion.{Inserts}
use Rattle.rt_tree_remove.specs.Removal.{Removes}
use Rattle.rt_tree_walk.specs.declared.searching.Row.{Row}
use Rattle.rt_tree_walk.specs.Search.{row_of}
use Rattle.rt_tree_outside.specs.Outside.{outside}
use Rattle.rt_tree_walk.proofs.Progress.{IsSettled}
use Rattle.rt_tree.specs.Lists.{box_of, GainsRow, LosesRow}
use Rattle.rt_tree.specs.Changes.{IsInsertion, IsRemoval}
use Rattle.rt_tree.specs.Moving.{TakesRow, DropsRow}
use Rattle.rt_tree.specs.TreeInside.{IsKept}
use Rattle.rt_tree.specs.declared.tree.Tree.TheInside.{Inside}
use Rattle.rt_tree.proofs.Kept.{settled}
use Rattle.rt_tree.proofs.Shape.{entries-long}
use Rattle.rt_tree.proofs.Rows.{rows-counted, few-have, box-none, box-some, leaf-is}
use Rattle.rt_tree.proofs.Exact.{takes-row, drops-row}
use Rattle.rt_tree.proofs.Ruled.{insertion, removal}
use Rattle.rt_tree.proofs.Lookup.{gains, loses}

module _ {D : ℕ} where
  -- ---- the map of leaves and the look-up by id
  pub absent-leaf : (t : Arena D) → IsSettled t → (id : ℤ) → box_of (outside t) id ≡ None → leaf_of int_eq t.leaves id ≡ None
  absent-leaf t s id none = by (leaf_of int_eq t.leaves id) refl
    where
      by : (o : Option ℕ) → leaf_of int_eq t.leaves id ≡ o → leaf_of int_eq t.leaves id ≡ None
      by None e = e
      by (Some k) e = let h = box-some t s id k e in absurd (none-some h.0.rect (sym none ∙ h.1))

  pub present-leaf : (t : Arena D) → IsSettled t → (id : ℤ) → IsSome (box_of (outside t) id) → IsSome (leaf_of int_eq t.leaves id)
  present-leaf t s id some = by (leaf_of int_eq t.leaves id) refl
    where
      by : (o : Option ℕ) → leaf_of int_eq t.leaves id ≡ o → IsSome (leaf_of int_eq t.leaves id)
      by None e = absurd (true≢false (sym some ∙ ap is_some (box-none t s id e)))
      by (Some k) e = subst IsSome (sym e) refl

  -- ---- room
  pub less-room : (t : Arena D) (rows rows1 : ℕ) → HasRoom t rows → rows1 ≤ rows → HasRoom t rows1
  less-room t rows rows1 h le = record { nodes = let n = h.nodes in omega arith; keys = h.keys }

  same-room : (t u : Arena D) (rows : ℕ) → u.capacity ≡ t.capacity → u.nodes.capacity ≡ t.nodes.capacity → HasRoom t rows → HasRoom u rows
  same-room t u rows cap room h = record {
    nodes = subst (λ (n : ℕ). rows + (least_fill n - 1) * 33 ≤ (least_fill n - 1) * u.nodes.capacity) (sym cap)
        (subst (λ (n : ℕ). rows + (least_fill t.capacity - 1) * 33 ≤ (least_fill t.capacity - 1) * n) (sym room) h.nodes);
    keys = let k = h.keys in omega arith;
  }

  module _ (t : Inside D) (k : IsKept t) where
    pub rows-are : length (outside t.arena).rows ≡ row_count t.arena
    rows-are = entries-long t.arena ∙ k.ids

    -- the cells of all nodes on the way up from a leaf may wait
    pub way-waits : t.arena.level ≤ 31 → (least_fill t.arena.capacity - 1) * t.arena.level + 512 ≤ vec_capacity t.arena.pending
    way-waits low =
        let most = k.whole.fitted.cap.1 in
        let narrow : least_fill t.arena.capacity - 1 ≤ 19 = omega arith in
        let a = mul-le-mul_left (least_fill t.arena.capacity - 1) low in
        omega (arith, a, narrow, k.pending_room)

  module _ (t : Inside D) (k : IsKept t) (u : Arena D) (id : ℤ) (rect : List Interval) where
    module _ (work : Work) (i : Inserts t.arena u id rect work) where
      more-rows : row_count u ≡ row_count t.arena + 1
      more-rows = i.rows (λ c. true)

      pub inserted-kept : (n : ℕ) → n + 1 ≡ t.spare → row_count t.arena < 2 ^ 31 → IsKept {D = D} record { arena = u; spare = n }
      inserted-kept n is few = record {
        some = k.some;
        few = k.few;
        whole = i.whole;
        branched = i.branched;
        idle = i.none_waits;
        ids = omega (arith, i.ids.len, more-rows, k.ids);
        rows = omega (arith, more-rows);
        room = same-room t.arena u (row_count u + n) i.capacity i.room (less-room t.arena (row_count t.arena + t.spare) (row_count u + n) k.room (omega (arith, more-rows)));
        leaves_room = omega (arith, i.ids.room, k.leaves_room);
        pending_room = omega (arith, i.pending_room, k.pending_room);
      }

      pub inserted-rows : GainsRow (outside t.arena) (outside u) id rect
      inserted-rows =
          let s = settled t k in
          let s1 : IsSettled u = record { whole = i.whole; none = i.none_waits } in
          gains (outside t.arena) (outside u) (few-have t.arena s) (few-have u s1) id rect
          (λ (test : Row D → Bool). rows-counted u s1 test ∙ i.rows (λ c. test (row_of c)) ∙ ap (λ m. m + cond (test record { id = id; rect = rect }) 1 0) (sym (rows-counted t.arena s test)))

      pub inserted-ruled : IsInsertion (outside t.arena) (outside u) id rect work
      inserted-ruled = insertion t.arena u (settled t k) (record { whole = i.whole; none = i.none_waits }) id rect work i

      pub inserted-takes : TakesRow (outside t.arena) (outside u) id rect work
      inserted-takes = takes-row t.arena u (settled t k) (record { whole = i.whole; none = i.none_waits }) id rect work i

    module _ (r : Removes t.arena u id rect) where
      pub fewer-rows : row_count u + 1 ≡ row_count t.arena
      fewer-rows = r.rows (λ c. true)

      pub removed-kept : IsKept {D = D} record { arena = u; spare = t.spare }
      removed-kept = record {
        some = k.some;
        few = k.few;
        whole = r.whole;
        branched = r.branched;
        idle = r.none_waits;
        ids = omega (arith, r.ids.len, fewer-rows, k.ids);
        rows = omega (arith, fewer-rows, k.rows);
        room = same-room t.arena u (row_count u + t.spare) r.capacity r.room (less-room t.arena (row_count t.arena + t.spare) (row_count u + t.spare) k.room (omega (arith, fewer-rows)));
        leaves_room = omega (arith, r.ids.room, k.leaves_room);
        pending_room = omega (arith, r.pending_room, k.pending_room);
      }

      pub removed-rows : LosesRow (outside t.arena) (outside u) id rect
      removed-rows =
          let s = settled t k in
          let s1 : IsSettled u = record { whole = r.whole; none = r.none_waits } in
          loses (outside t.arena) (outside u) (few-have t.arena s) (few-have u s1) id rect
          (λ (test : Row D → Bool).
          ap (λ m. m + cond (test record { id = id; rect = rect }) 1 0) (rows-counted u s1 test) ∙ r.rows (λ c. test (row_of c)) ∙ sym (rows-counted t.arena s test))

      pub removed-ruled : IsRemoval (outside t.arena) (outside u) id rect
      removed-ruled = removal t.arena u (settled t k) (record { whole = r.whole; none = r.none_waits }) id rect r removed-rows.was

      pub removed-drops : IsSome (leaf_of int_eq t.arena.leaves id) → DropsRow (outside t.arena) (outside u) id rect
      removed-drops known = by (leaf_of int_eq t.arena.leaves id) refl
        where
          by : (o : Option ℕ) → leaf_of int_eq t.arena.leaves id ≡ o → DropsRow (outside t.arena) (outside u) id rect
          by None e = absurd (true≢false (sym known ∙ ap is_some e))
          by (Some leaf) e =
              drops-row t.arena u (settled t k) (record { whole = r.whole; none = r.none_waits }) id rect leaf e (leaf-is t.arena (settled t k) id leaf e) r
