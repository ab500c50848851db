-- What a search finds fits where there is room for it.
use Rattle.std.proofs.Common.{◌≡◌, ℕ, ◌+◌, ◌≤◌, Bool, List, ◌++◌, length, get_or, drop, Option, None, is_some, cond, arith, ap, Vec, Global, vec_capacity}
use Rattle.std.specs.Prelude.{Result, Ok, Err, IsErr, OnErr}
use Rattle.std.specs.List.{All, count_by}
use Rattle.std.proofs.lemmas.List.{get_or_past, length-append, length-drop}
use Rattle.slab.specs.Slab.{get, slab_len}
use Rattle.rt_box.specs.declared.interval.Interval.{Interval}
use Rattle.rt_box.specs.Rect.{coordinates}
use Rattle.rt_box.specs.Window.{Admits}
use Rattle.rt_tree_node.specs.declared.arena.Arena.{Arena}
use Rattle.rt_tree_node.specs.Node.{NodeCells}
use Rattle.rt_tree_node.specs.Places.{leaf_cells_of, count_rows}
use Rattle.rt_tree_node.proofs.Sums.{upto-list}
use Rattle.rt_tree_walk.specs.declared.searching.Reached.{Reached}
use Rattle.rt_tree_walk.specs.declared.searching.Row.{Row}
use Rattle.rt_tree_walk.specs.Search.{times, row_of, AsksAdmitted, Counts, HasRoomToFind}
use Rattle.rt_tree_walk.proofs.Totals.{times-append, sum-listed_le}
use Rattle.rt_tree_walk.proofs.Counted.{allowed, allowed-decides, count-all}
use Rattle.rt_tree_walk.proofs.Progress.{IsSettled, Progress, ProgressAfter, reached-level, settled-linked, level-some, occupied}

-- what holds whatever the error is
pub on-err : {T E P : Type 0} (r : Result T E) → IsErr r → P → OnErr r P
on-err (Ok x) e p = tt
on-err (Err y) e p = p

module _ {D : ℕ} (t : Arena D) (window : List Interval) (s : IsSettled t) where
  -- no more rows are found than the window admits
  pub rows-few : (keys : List ℕ) (rows : List (Row D)) (visited count : ℕ) → Progress t window keys rows visited → Counts t window count → length rows ≤ count
  rows-few keys rows visited count p counts =
      let test : Row D → Bool = λ r. allowed window (coordinates r.rect) in
      let asks : AsksAdmitted window test = λ r e. (allowed-decides window (coordinates r.rect)).0 e in
      let m : Option (NodeCells D) → ℕ = λ o. count_by (λ c. test (row_of c)) (leaf_cells_of o) in
      let f : ℕ → ℕ = λ k. m (get t.nodes k) in
      let past : (k : ℕ) → length t.nodes.slots ≤ k → f k ≡ 0 = λ k h. ap m (get_or_past t.nodes.slots k None h) in
      let once : (k : ℕ) → times k p.seen ≤ 1 = λ k. omega (arith, p.once k) in
      let passes : (rs : List (Row D)) → All (λ r. Admits window r.rect) rs → count_by test rs ≡ length rs =
      λ rs all. count-all test rs (λ k d h. (allowed-decides window (coordinates (get_or rs k d).rect)).1 (all k d h)) in
      let listed = sum-listed_le f (length t.nodes.slots) p.seen past once in
      let whole = upto-list m t.nodes.slots None in
      let none = ap (λ ws. count_rows (λ c. test (row_of c)) t.nodes ws) s.none in
      omega (arith, passes rows p.admitted, p.each test asks, listed, whole, none, passes counts.rows counts.admitted, counts.each test asks, counts.counted)

  -- no more nodes are reached than there are
  pub nodes-few : (keys : List ℕ) (rows : List (Row D)) (visited : ℕ) → Progress t window keys rows visited → visited + length keys ≤ slab_len t.nodes
  nodes-few keys rows visited p =
      let xs = p.seen ++ keys in
      let m : Option (NodeCells D) → ℕ = λ o. cond (is_some o) 1 0 in
      let f : ℕ → ℕ = λ k. m (get t.nodes k) in
      let past : (k : ℕ) → length t.nodes.slots ≤ k → f k ≡ 0 = λ k h. ap m (get_or_past t.nodes.slots k None h) in
      let once : (k : ℕ) → times k xs ≤ 1 = λ k. omega (arith, times-append k p.seen keys, p.once k) in
      let bound = sum-listed_le f (length t.nodes.slots) xs past once in
      let whole : ◌≡◌ {A = ℕ} _ (slab_len t.nodes) = upto-list m t.nodes.slots None in
      let held = occupied t.nodes xs (λ k some.
      let h = reached-level t window (settled-linked t s) k (p.reached k (omega (arith, some, times-append k p.seen keys))) in level-some t.nodes k h.0 h.1) in
      omega (arith, bound, whole, held, length-append p.seen keys, p.counted)

  -- where there is room for all that is found, a step of the search lacks none
  pub no-lack : (old : Vec (Row D) Global) (reached : Vec Reached Global) (rows1 : List (Row D)) (keys1 : List ℕ) (at : ℕ) →
      HasRoomToFind t window old reached → ProgressAfter t window (drop at keys1) old.items rows1 at → at ≤ length keys1 →
      (length rows1 ≤ vec_capacity old) × (length keys1 ≤ vec_capacity reached)
  no-lack old reached rows1 keys1 at room so within = (
    omega (arith, ap length so.is, length-append old.items so.more, rows-few (drop at keys1) so.more at room.count so.so room.counts, room.rows_fit),
    omega (arith, nodes-few (drop at keys1) so.more at so.so, length-drop at keys1, within, room.nodes_fit),
  )
