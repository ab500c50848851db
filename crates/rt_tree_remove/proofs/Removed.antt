-- A removal, from its steps.
use Rattle.std.proofs.Common.{◌≡◌, ◌≢◌, ℕ, zero, suc, ◌+◌, ◌-◌, ◌*◌, ◌<◌, ◌≤◌, Bool, true, false, ℤ, List, [], ◌∷◌, length, reverse, get_or, Option, Some, None, is_some, vec_len, vec_capacity, arith, refl, ap, sym, subst, ◌∙◌}
use Rattle.std.specs.List.{remove}
use Rattle.std.specs.Ordering.{int_eq}
use Rattle.std.specs.Option.{option_map_or}
use Rattle.std.proofs.lemmas.Bool.{true≢false}
use Rattle.std.proofs.lemmas.Option.{same_Some, slice_get_within}
use Rattle.std.proofs.lemmas.List.{length-map, length-reverse, nil_from_length}
use Rattle.std.proofs.lemmas.List.Edits.{length-remove}
use Rattle.std.proofs.lemmas.List.Sorted.{IsPermutation-reverse}
use Rattle.slab.specs.Slab.{Slab, get}
use Rattle.indexmap.specs.IndexMap.{IndexMap, get as leaf_of}
use Rattle.rt_box.specs.declared.interval.Interval.{Interval}
use Rattle.rt_box.specs.Capacity.{least_fill}
use Rattle.rt_tree_node.specs.declared.arena.Arena.{Arena}
use Rattle.rt_tree_node.specs.declared.cell.Cell.{Cell}
use Rattle.rt_tree_node.specs.Node.{NodeCells}
use Rattle.rt_tree_node.specs.Homes.{KeepsIds}
use Rattle.rt_tree_node.specs.Sound.{IsLinked, IsFitted, HasHomes}
use Rattle.rt_tree_node.specs.Places.{numbers, cells_of, cells_at, level_at, parent_at, count_rows}
use Rattle.rt_tree_place.specs.Path.{KeepsShape}
use Rattle.rt_tree_node.specs.Whole.{IsWhole, IsBranched, HasRoom, row_count}
use Rattle.rt_tree_node.proofs.Places.{leaf-at_leaf}
use Rattle.rt_tree_place.proofs.NewRow.{known-by_keys}
use Rattle.rt_tree_place.proofs.Shapes.{shape-then}
use Rattle.rt_tree_place.proofs.Turns.{room-kept}
use Rattle.rt_tree_remove.specs.Above.{way_up}
use Rattle.rt_tree_remove.specs.Removal.{LosesId, LeavesLeaf, Removes}
use Rattle.rt_tree_remove.specs.Steps.{Forgets, Takes, Condenses, IsRoomy, Places, GivesWay}
use Rattle.rt_tree_remove.proofs.Changed.{changed-levels, changed-parents, changed-others, changed-cells}
use Rattle.rt_tree_remove.proofs.Dissolved.{leaf-same}
use Rattle.rt_tree_remove.proofs.WayGiven.{way-still}
use Rattle.rt_tree_remove.proofs.Reordered.{reordered-linked, reordered-fitted, reordered-homes, reordered-rows}

none-by_is_some : {X : Type 0} (o : Option X) → is_some o ≡ false → o ≡ None
none-by_is_some None e = refl
none-by_is_some (Some x) e = absurd (true≢false e)

module _ {S : Type 0} where
  -- the ids after the pending cells were placed
  pub loses-id : (old mid new : IndexMap ℤ ℕ S) (id : ℤ) → Forgets old mid id → KeepsIds mid new → LosesId old new id
  loses-id old mid new id forgets keeps =
      let known : (other : ℤ) → is_some (leaf_of int_eq new other) ≡ is_some (leaf_of int_eq mid other) = λ other. known-by_keys (int_eq other) new.entries mid.entries keeps.ids in
      record {
        gone = none-by_is_some (leaf_of int_eq new id) (known id ∙ ap is_some forgets.gone);
        others = λ other differs.
            let same = known other ∙ ap is_some (forgets.others other differs) in
            ((λ some. sym same ∙ some), (λ some. same ∙ some));
        len = let p = forgets.len in let q = keeps.len in omega arith;
        room = let p = forgets.room in let q = keeps.room in omega arith;
      }

module _ {D : ℕ} where
  pub whole-reversed : (t u : Arena D) → u.pending.items ≡ reverse t.pending.items → IsWhole t → IsWhole (record t { pending = u.pending })
  whole-reversed t u turned whole =
      let ws = t.pending.items in
      let moved = IsPermutation-reverse ws in
      record {
        linked = subst (IsLinked t.nodes t.root t.level) (sym turned) (reordered-linked t.nodes ws (reverse ws) moved t.root t.level whole.linked);
        fitted = subst (λ vs. IsFitted t.capacity t.nodes t.root vs None) (sym turned) (reordered-fitted t.nodes ws (reverse ws) moved t.capacity t.root None whole.fitted);
        homes = subst (HasHomes (leaf_of int_eq t.leaves) t.nodes) (sym turned) (reordered-homes t.nodes ws (reverse ws) moved (leaf_of int_eq t.leaves) whole.homes);
      }

  pub rows-reversed : (t u : Arena D) → u.pending.items ≡ reverse t.pending.items → (test : Cell D → Bool) →
      count_rows test t.nodes u.pending.items ≡ count_rows test t.nodes t.pending.items
  rows-reversed t u turned test =
      ap (count_rows test t.nodes) turned ∙ reordered-rows t.nodes t.pending.items (reverse t.pending.items) (IsPermutation-reverse t.pending.items) test

  -- the way up, where the parents are the same
  pub way_up-same : (a b : Slab (NodeCells D)) → ((k : ℕ) → parent_at b k ≡ parent_at a k) → (l k : ℕ) → way_up b l k ≡ way_up a l k
  way_up-same a b same zero k = refl
  way_up-same a b same (suc l) k = ap (λ o. k ∷ option_map_or (way_up b l) o []) (same k) ∙ by (parent_at a k) (way_up-same a b same l)
    where
      by : (o : Option ℕ) → ((p : ℕ) → way_up b l p ≡ way_up a l p) → ◌≡◌ {A = List ℕ} (k ∷ option_map_or (way_up b l) o []) (k ∷ option_map_or (way_up a l) o [])
      by None rest = refl
      by (Some p) rest = ap (λ ks. k ∷ ks) (rest p)

  module _ (old mid new : Arena D) (id : ℤ) (leaf at : ℕ) (rect : List Interval) (takes : Takes old mid id leaf at rect) (condenses : Condenses mid new leaf) where
    level-old : (n : NodeCells D) → get old.nodes leaf ≡ Some n → level_at mid.nodes leaf ≡ level_at old.nodes leaf
    level-old n has = changed-levels old.nodes mid.nodes leaf n (remove n.cells at) has (takes.change n has) leaf

    cell-inside : at < length (cells_at old.nodes leaf)
    cell-inside = slice_get_within (cells_at old.nodes leaf) at _ takes.cell

    leaf-there : (n : NodeCells D) × (get old.nodes leaf ≡ Some n)
    leaf-there = by (get old.nodes leaf) refl
      where
        by : (s : Option (NodeCells D)) → get old.nodes leaf ≡ s → (n : NodeCells D) × (get old.nodes leaf ≡ Some n)
        by None e = let none = ap (λ s. length (cells_of s)) e in let some = cell-inside in absurd (omega arith)
        by (Some n) e = (n, e)

    same-levels : (k : ℕ) → level_at mid.nodes k ≡ level_at old.nodes k
    same-levels = let n = leaf-there.0 in changed-levels old.nodes mid.nodes leaf n (remove n.cells at) leaf-there.1 (takes.change n leaf-there.1)

    same-parents : (k : ℕ) → parent_at mid.nodes k ≡ parent_at old.nodes k
    same-parents = let n = leaf-there.0 in changed-parents old.nodes mid.nodes leaf n (remove n.cells at) leaf-there.1 (takes.change n leaf-there.1)

    same-others : (k : ℕ) → k ≢ leaf → cells_at mid.nodes k ≡ cells_at old.nodes k
    same-others = let n = leaf-there.0 in changed-others old.nodes mid.nodes leaf n (remove n.cells at) leaf-there.1 (takes.change n leaf-there.1)

    leaf-cells : cells_at mid.nodes leaf ≡ remove (cells_at old.nodes leaf) at
    leaf-cells =
        let n = leaf-there.0 in
        changed-cells old.nodes mid.nodes leaf n (remove n.cells at) leaf-there.1 (takes.change n leaf-there.1) ∙ ap (λ cs. remove cs at) (sym (ap cells_of leaf-there.1))

    same-way : way_up mid.nodes mid.level leaf ≡ way_up old.nodes old.level leaf
    same-way = ap (λ l. way_up mid.nodes l leaf) takes.level ∙ way_up-same old.nodes mid.nodes same-parents old.level leaf

    pub still-roomy : (leaf ≢ old.root → suc (least_fill old.capacity) ≤ length (cells_at old.nodes leaf)) → IsRoomy mid leaf
    still-roomy spare away =
        let before = spare (λ e. away (e ∙ sym takes.root)) in
        let fewer = length-remove (cells_at old.nodes leaf) at cell-inside in
        let long = ap length leaf-cells in
        let m = ap least_fill takes.capacity in omega arith

    kept-mid : (k : ℕ) → k ≢ leaf → (path : List ℕ) → KeepsShape old.nodes mid.nodes path k
    kept-mid k other path = record {
      level = same-levels k;
      parent = same-parents k;
      rows = leaf-same old.nodes mid.nodes k (same-levels k) (same-others k other);
      numbers_same = ap numbers (same-others k other);
      boxes = λ j x off. ap (λ cs. get_or cs j x) (same-others k other);
    }

    shape-new : IsRoomy mid leaf → (k : ℕ) → KeepsShape mid.nodes new.nodes (way_up old.nodes old.level leaf) k
    shape-new roomy k = subst (λ path. KeepsShape mid.nodes new.nodes path k) same-way (condenses.shape roomy k)

    pub leaves-leaf : IsRoomy mid leaf → LeavesLeaf old new leaf at record { number = id; rect = rect }
    leaves-leaf roomy =
        let own = shape-new roomy leaf in
        record {
          was = takes.cell;
          root = condenses.keeps.root ∙ takes.root;
          height = condenses.keeps.level ∙ takes.level;
          level = own.level ∙ same-levels leaf;
          parent = own.parent ∙ same-parents leaf;
          cells = sym (leaf-at_leaf new.nodes leaf (own.level ∙ takes.bottom)) ∙ own.rows ∙ leaf-at_leaf mid.nodes leaf takes.bottom ∙ leaf-cells;
          others = λ k other. shape-then old.nodes mid.nodes new.nodes (way_up old.nodes old.level leaf) k
              (kept-mid k other (way_up old.nodes old.level leaf)) (shape-new roomy k);
          homes = λ other differs. ap (λ m. leaf_of int_eq m other) condenses.keeps.leaves ∙ takes.forgets.others other differs;
        }

    pub still-branched : IsRoomy mid leaf → IsBranched old → IsBranched new
    still-branched roomy branched high =
        let top = condenses.keeps.level in
        let top2 = takes.level in
        let two = branched (omega arith) in
        let shape = shape-new roomy old.root in
        let away : old.root ≢ leaf = λ e.
        let bottom = same_Some _ _ (sym takes.bottom ∙ ap (level_at mid.nodes) (sym (takes.root ∙ e)) ∙ takes.but.sound.linked.root_level) in omega arith in
        let long = length-map (cells_at new.nodes old.root) (λ c. c.number) in
        let long2 = length-map (cells_at mid.nodes old.root) (λ c. c.number) in
        let same = ap length shape.numbers_same in
        let before = ap length (same-others old.root away) in
        let root_is = ap (λ r. length (cells_at new.nodes r)) (condenses.keeps.root ∙ takes.root) in
        omega arith

  pub removes : (s0 s1 s2 u s4 s5 : Arena D) (id : ℤ) (leaf at : ℕ) (rect : List Interval) → IsBranched s0 → s0.pending.items ≡ [] →
      Takes s0 s1 id leaf at rect → Condenses s1 s2 leaf → u.pending.items ≡ reverse s2.pending.items → vec_capacity u.pending ≡ vec_capacity s2.pending →
      Places (record s2 { pending = u.pending }) s4 → vec_len s4.pending ≡ 0 → GivesWay s4 s5 → Removes s0 s5 id rect
  removes s0 s1 s2 u s4 s5 id leaf at rect branched idle takes condenses turned turned_room places none gives = record {
    whole = gives.whole;
    branched = gives.branched;
    none_waits = ap (λ w. w.items) gives.pending ∙ none_left;
    steps = record {
      leaf = leaf;
      at = at;
      taken = s1;
      takes = takes;
      condensed = s2;
      condenses = condenses;
      turned = record s2 { pending = u.pending };
      turned_is = refl;
      reversed = turned;
      placed = s4;
      places = places.turns;
      none_left = none_left;
      gives_way = gives;
    };
    rows = λ test.
        let a = gives.rows test in
        let b = places.rows test in
        let c = rows-reversed s2 u turned test in
        let d = condenses.keeps.rows test in
        let e = takes.rows test in omega arith;
    ids =
        subst (λ m. LosesId s0.leaves m id) (sym gives.leaves)
        (loses-id s0.leaves s1.leaves s4.leaves id takes.forgets (subst (λ m. KeepsIds m s4.leaves) condenses.keeps.leaves places.ids));
    capacity = gives.capacity ∙ places.capacity ∙ condenses.keeps.capacity ∙ takes.capacity;
    room = gives.room ∙ places.room ∙ condenses.keeps.room ∙ taken_room;
    pending_room =
        let a = ap vec_capacity gives.pending in
        let b = places.pending_room in
        let c = condenses.keeps.pending_room in
        let d = ap vec_capacity takes.pending in omega arith;
    exact = λ where_it_lay home spare.
        let same : where_it_lay ≡ leaf = same_Some _ _ (sym home ∙ takes.home) in
        let roomy = still-roomy s0 s1 s2 id leaf at rect takes condenses (λ away. subst (λ k. suc (least_fill s0.capacity) ≤ length (cells_at s0.nodes k)) same (spare (λ e. away (sym same ∙ e)))) in
        let idle2 : s2.pending.items ≡ [] = condenses.pending roomy ∙ ap (λ w. w.items) takes.pending ∙ idle in
        let emptied = ap length (turned ∙ ap reverse idle2) in
        let long = u.pending.ok.0 in
        let none3 : vec_len u.pending ≡ 0 = omega arith in
        let s3 : Arena D = record s2 { pending = u.pending } in
        let stays : s4 ≡ s3 = places.still none3 in
        let branched2 = still-branched s0 s1 s2 id leaf at rect takes condenses roomy branched in
        let end : s5 ≡ s3 = way-still s4 s5 gives (places.branched branched2) ∙ stays in
        let exact2 = leaves-leaf s0 s1 s2 id leaf at rect takes condenses roomy in
        let exact3 : LeavesLeaf s0 s3 leaf at record { number = id; rect = rect } = record {
          was = exact2.was;
          root = exact2.root;
          height = exact2.height;
          level = exact2.level;
          parent = exact2.parent;
          cells = exact2.cells;
          others = exact2.others;
          homes = exact2.homes;
        } in (
          at,
          subst (λ k. LeavesLeaf s0 s5 k at record { number = id; rect = rect }) (sym same)
              (subst (λ t. LeavesLeaf s0 t leaf at record { number = id; rect = rect }) (sym end) exact3),
        );
  }
    where
      none_left : s4.pending.items ≡ []
      none_left = nil_from_length s4.pending.items (let long = s4.pending.ok.0 in omega arith)

      taken_room : s1.nodes.capacity ≡ s0.nodes.capacity
      taken_room = let there = leaf-there s0 s1 s2 id leaf at rect takes condenses in (takes.change there.0 there.1).room

  -- the pending cells can be placed
  module _ (s0 s1 s2 u : Arena D) (id : ℤ) (leaf at : ℕ) (rect : List Interval) (takes : Takes s0 s1 id leaf at rect) (condenses : Condenses s1 s2 leaf)
      (turned : u.pending.items ≡ reverse s2.pending.items) (turned_room : vec_capacity u.pending ≡ vec_capacity s2.pending) where
    pub fewer-rows : row_count (record s2 { pending = u.pending }) + 1 ≡ row_count s0
    fewer-rows =
        let a = rows-reversed s2 u turned (λ c. true) in
        let b = condenses.keeps.rows (λ c. true) in
        let c = takes.rows (λ c. true) in omega arith

    pub ready-room : HasRoom s0 (row_count s0) → HasRoom (record s2 { pending = u.pending }) (row_count (record s2 { pending = u.pending }))
    ready-room room =
        let fewer = fewer-rows in
        let there = leaf-there s0 s1 s2 id leaf at rect takes condenses in
        room-kept s0 (record s2 { pending = u.pending }) (row_count (record s2 { pending = u.pending })) (row_count s0) (omega arith)
        (condenses.keeps.capacity ∙ takes.capacity) (condenses.keeps.room ∙ (takes.change there.0 there.1).room) room

    pub ready-pending : (least_fill s0.capacity - 1) * s0.level + 512 ≤ vec_capacity s0.pending → vec_len u.pending + 512 ≤ vec_capacity u.pending
    ready-pending room =
        let long = u.pending.ok.0 in
        let same = ap length turned in
        let reversed = length-reverse s2.pending.items in
        let few = condenses.few in
        let e = ap (λ M. (least_fill M - 1) * s2.level) (condenses.keeps.capacity ∙ takes.capacity) in
        let f = ap (λ l. (least_fill s0.capacity - 1) * l) (condenses.keeps.level ∙ takes.level) in
        let a = condenses.keeps.pending_room in
        let b = ap vec_capacity takes.pending in omega arith
