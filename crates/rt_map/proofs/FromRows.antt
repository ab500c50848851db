-- A tree that is made of a list of rows.
use Rattle.std.proofs.Common.{◌≡◌, ℕ, ◌+◌, ◌-◌, ◌*◌, ◌≤◌, ◌^◌, Bool, true, List, [], ◌∷◌, length, map, count_by, vec_capacity, arith, refl, ap, ◌∙◌, sym, subst}
use Rattle.std.proofs.Math.Nat.{mul-le-mul_left}
use Rattle.std.proofs.lemmas.List.{length-map}
use Rattle.indexmap.specs.IndexMap.{index_map_len}
use Rattle.rt_box.specs.Capacity.{least_fill}
use Rattle.rt_tree_node.specs.declared.arena.Arena.{Arena}
use Rattle.rt_tree_node.specs.declared.cell.Cell.{Cell}
use Rattle.rt_tree_node.specs.Places.{numbers}
use Rattle.rt_tree_node.specs.Whole.{row_count, most_rows_of_a_tree, HasRoom}
use Rattle.rt_tree.specs.Bare.{IsBare}
use Rattle.rt_tree_place.proofs.Sums.{count-all}
use Rattle.rt_tree_pack.specs.Packing.{Packs, most_packed_nodes}
use Rattle.rt_tree_walk.specs.declared.searching.Row.{Row}
use Rattle.rt_tree_walk.specs.Search.{row_of}
use Rattle.rt_tree_outside.specs.Outside.{outside}
use Rattle.rt_tree_walk.proofs.Progress.{IsSettled}
use Rattle.rt_tree_node.proofs.Counts.{count-cons}
use Rattle.rt_map.specs.Packing.{ids}
use Rattle.rt_map.specs.PackingInside.{cell_of, IsReadyFor, IsArenaOf}
use Rattle.rt_tree.proofs.Rows.{rows-counted}
use Rattle.rt_tree.proofs.Shape.{nodes-long, entries-long}

module _ {D : ℕ} where
  -- the cells of rows have the rows' ids
  pub same-ids : (rows : List (Row D)) → numbers (map cell_of rows) ≡ ids rows
  same-ids [] = refl
  same-ids (r ∷ rows) = ap (λ xs. r.id ∷ xs) (same-ids rows)

  -- and as many of them pass a test
  same-count : (test : Row D → Bool) (rows : List (Row D)) → count_by (λ c. test (row_of c)) (map cell_of rows) ≡ count_by test rows
  same-count test [] = refl
  same-count test (r ∷ rows) =
      omega (arith, count-cons (λ (c : Cell D). test (row_of c)) (cell_of r) (map cell_of rows), count-cons test r rows, same-count test rows)

  -- only the map of leaves changes
  pub still-bare : (t : Arena D) (u : Arena D) → u ≡ record t { leaves = u.leaves } → IsBare t → IsBare u
  still-bare t u is bare = subst IsBare (sym is) record {
    cap = bare.cap;
    leaf = bare.leaf;
    level = bare.level;
    alone = bare.alone;
    one = bare.one;
    idle = bare.idle;
  }

  -- room that was made for nodes of a capacity
  pub bare-room : (t : Arena D) (capacity n nodes : ℕ) → t.capacity ≡ capacity → n + (least_fill capacity - 1) * 33 ≤ (least_fill capacity - 1) * nodes →
      nodes ≤ t.nodes.capacity → t.nodes.capacity ≤ 2 ^ 62 → HasRoom t n
  bare-room t capacity n nodes is enough within keys = record {
    nodes = subst (λ m. n + (least_fill m - 1) * 33 ≤ (least_fill m - 1) * t.nodes.capacity) (sym is)
        (let wide = mul-le-mul_left (least_fill capacity - 1) within in omega (arith, wide, enough));
    keys = keys;
  }

  -- the nodes after packing
  pub arena-of : (capacity : ℕ) (rows : List (Row D)) (t u : Arena D) → 1 ≤ D → D ≤ 3 → length rows ≤ most_rows_of_a_tree → IsReadyFor t capacity (map cell_of rows) →
      Packs t u (map cell_of rows) → IsArenaOf u capacity rows
  arena-of capacity rows t u some few most ready packs =
      let long : length (map cell_of rows) ≡ length rows = length-map rows cell_of in
      let room : HasRoom t (length rows) = subst (HasRoom t) long ready.room in
      let idle = ap (λ p. p.items) packs.pending ∙ ready.bare.idle in
      let s : IsSettled u = record { whole = packs.whole; none = idle } in
      let counted : row_count u ≡ length rows = omega (arith, packs.rows_are (λ c. true), count-all (map cell_of rows), long) in
      let same_room = packs.room in
      let leaves : index_map_len u.leaves ≡ length rows = packs.ids.len ∙ ready.entries ∙ long in
      record {
        kept = record {
          some = some;
          few = few;
          whole = packs.whole;
          branched = packs.branched;
          idle = idle;
          ids = omega (arith, leaves, counted);
          rows = omega (arith, counted, most);
          room = subst (λ n. HasRoom u n) (omega (arith, counted)) (record {
            nodes = subst (λ m. length rows + (least_fill m - 1) * 33 ≤ (least_fill m - 1) * u.nodes.capacity) (sym packs.capacity)
                (subst (λ r. length rows + (least_fill t.capacity - 1) * 33 ≤ (least_fill t.capacity - 1) * r) (sym same_room) room.nodes);
            keys = omega (arith, same_room, room.keys);
          });
          leaves_room = omega arith;
          pending_room = omega (arith, ap vec_capacity packs.pending, ready.pending_room);
        };
        packed = record {
          rows_are = λ test. rows-counted u s test ∙ packs.rows_are (λ c. test (row_of c)) ∙ same-count test rows;
          entries = entries-long u ∙ leaves;
          nodes = subst (λ m. length (outside u).nodes ≤ most_packed_nodes m (length rows)) (packs.capacity ∙ ready.capacity_is)
              (subst (λ n. length (outside u).nodes ≤ most_packed_nodes u.capacity n) long (omega (arith, nodes-long u s, packs.nodes)));
          capacity_is = packs.capacity ∙ ready.capacity_is;
        };
      }
