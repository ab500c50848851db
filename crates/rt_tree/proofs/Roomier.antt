-- The same nodes and rows, with other room.
use Rattle.std.proofs.Common.{◌≡◌, ℕ, zero, suc, ◌+◌, ◌≤◌, ◌^◌, ◌-◌, ◌*◌, true, ℤ, pos, List, ◌∷◌, length, map, Option, None, vec_capacity, arith, refl, ap, sym, ◌∙◌, subst}
use Rattle.std.proofs.Math.Nat.{mul-le-mul_left}
use Rattle.std.proofs.Math.Path.{fun_ext}
use Rattle.std.specs.List.{flat_map, sum_by, count_by}
use Rattle.std.specs.Map.{lookup, keys_of}
use Rattle.std.specs.Ordering.{int_eq}
use Rattle.slab.specs.Slab.{Slab, get}
use Rattle.indexmap.specs.IndexMap.{get as leaf_of, keys as ids_of, spare}
use Rattle.rt_check.specs.declared.node.NodeRow.{NodeRow}
use Rattle.rt_check.specs.Shadow.{ShadowLists}
use Rattle.rt_box.specs.Capacity.{least_fill}
use Rattle.rt_tree_node.specs.declared.arena.Arena.{Arena}
use Rattle.rt_tree_node.specs.declared.cell.Cell.{Cell}
use Rattle.rt_tree_node.specs.declared.cell.Pending.{Pending}
use Rattle.rt_tree_node.specs.Node.{NodeCells}
use Rattle.rt_tree_node.specs.Places.{key_of, cells_at, leaf_cells_of, pending_rows}
use Rattle.rt_tree_node.specs.Sound.{IsLinked, IsFitted, HasHomes}
use Rattle.rt_tree_node.specs.Whole.{IsWhole, HasRoom, row_count}
use Rattle.rt_tree_walk.specs.Preorder.{keys_in, tree_keys, number_in}
use Rattle.rt_tree_outside.specs.Outside.{node_row, row_entry, rising, outside}
use Rattle.rt_tree.specs.TreeInside.{IsKept}

module _ {D : ℕ} where
  -- the slab with other slots
  abbrev slotted : Slab (NodeCells D) → List (Option (NodeCells D)) → Slab (NodeCells D)
  slotted b slots = record { slots = slots; vacant_key = b.vacant_key; capacity = b.capacity }

  linked-same : (a b : Slab (NodeCells D)) (root level : ℕ) (ws : List (Pending D)) → IsLinked a root level ws → IsLinked (slotted b a.slots) root level ws
  linked-same a b root level ws h = record {
    root_level = h.root_level;
    root_parent = h.root_parent;
    root_waits_not = h.root_waits_not;
    levels = h.levels;
    children = λ k l e i d w.
        let c = h.children k l e i d w in
        record { names = record { number_is = c.names.number_is; level_is = c.names.level_is }; parent_is = c.parent_is };
    named = h.named;
    pending_levels = h.pending_levels;
    pending_named = λ i d w l e. let c = h.pending_named i d w l e in record { number_is = c.number_is; level_is = c.level_is };
  }

  fitted-same : (a b : Slab (NodeCells D)) (capacity root : ℕ) (ws : List (Pending D)) (odd : Option ℕ) → IsFitted capacity a root ws odd → IsFitted capacity (slotted b a.slots) root ws odd
  fitted-same a b capacity root ws odd h = record {
    cap = h.cap;
    some = h.some;
    least = h.least;
    most = h.most;
    boxes = h.boxes;
    hulls = h.hulls;
    pending_boxes = h.pending_boxes;
    pending_hulls = h.pending_hulls;
  }

  homes-same : (f : ℤ → Option ℕ) (a b : Slab (NodeCells D)) (ws : List (Pending D)) → HasHomes f a ws → HasHomes f (slotted b a.slots) ws
  homes-same f a b ws h = record { home = h.home; there = h.there; pending = h.pending }

  keys-same : (a b : Slab (NodeCells D)) (l k : ℕ) → keys_in (slotted b a.slots) l k ≡ keys_in a l k
  keys-same a b zero k = refl
  keys-same a b (suc l) k = ap (λ (f : Cell D → List ℕ). k ∷ flat_map f (cells_at a k)) (fun_ext (λ c. keys-same a b l (key_of c)))

  module _ (t u : Arena D) (slots : u.nodes.slots ≡ t.nodes.slots) (entries : u.leaves.entries ≡ t.leaves.entries)
      (pending : u.pending.items ≡ t.pending.items) (pending_room : vec_capacity u.pending ≡ vec_capacity t.pending) (root : u.root ≡ t.root) (level : u.level ≡ t.level) (capacity : u.capacity ≡ t.capacity) where
    leaves-same : leaf_of int_eq u.leaves ≡ leaf_of int_eq t.leaves
    leaves-same = fun_ext (λ id. ap (lookup (int_eq id)) entries)

    -- what holds of the slab with the slots of the other holds of this
    with-slots : (P : Slab (NodeCells D) → Type 0) → P (slotted u.nodes t.nodes.slots) → P u.nodes
    with-slots P h = subst (λ (xs : List (Option (NodeCells D))). P (slotted u.nodes xs)) (sym slots) h

    whole-same : IsWhole t → IsWhole u
    whole-same h = record {
      linked = with-slots (λ a. IsLinked a u.root u.level u.pending.items) (rw (pending, root, level) (linked-same t.nodes u.nodes t.root t.level t.pending.items h.linked));
      fitted = with-slots (λ a. IsFitted u.capacity a u.root u.pending.items None)
          (rw (pending, root, capacity) (fitted-same t.nodes u.nodes t.capacity t.root t.pending.items None h.fitted));
      homes = with-slots (λ a. HasHomes (leaf_of int_eq u.leaves) a u.pending.items)
          (subst (λ (f : ℤ → Option ℕ). HasHomes f (slotted u.nodes t.nodes.slots) u.pending.items) (sym leaves-same)
          (rw pending (homes-same (leaf_of int_eq t.leaves) t.nodes u.nodes t.pending.items h.homes)));
    }

    keys-are : tree_keys u ≡ tree_keys t
    keys-are =
        with-slots (λ a. keys_in a u.level u.root ≡ tree_keys t)
        (rw (level, root) (keys-same t.nodes u.nodes t.level t.root))

    pub outside-same : outside u ≡ outside t
    outside-same =
        let listed : (ℕ → Option (NodeCells D)) → List ℕ → List (NodeRow D) = λ at ks. map (λ key. node_row (number_in ks) key (at key)) ks in
        let at : get u.nodes ≡ get t.nodes = with-slots (λ a. get a ≡ get t.nodes) refl in
        let nodes : (outside u).nodes ≡ (outside t).nodes = ap (λ f. listed f (tree_keys u)) at ∙ ap (listed (get t.nodes)) keys-are in
        let rows : (outside u).rows ≡ (outside t).rows =
        ap (λ ks. map (row_entry (number_in ks) (leaf_of int_eq u.leaves)) (rising (ids_of u.leaves))) keys-are
        ∙ ap (λ f. map (row_entry (number_in (tree_keys t)) f) (rising (ids_of u.leaves))) leaves-same
        ∙ ap (λ es. map (row_entry (number_in (tree_keys t)) (leaf_of int_eq t.leaves)) (rising (keys_of es))) entries in
        let make : ℕ → List (NodeRow D) → List _ → ShadowLists D = λ c ns rs. record { capacity = c; root = pos 1; nodes = ns; rows = rs } in
        ap (λ c. make c (outside u).nodes (outside u).rows) capacity ∙ ap (λ ns. make t.capacity ns (outside u).rows) nodes
        ∙ ap (make t.capacity (outside t).nodes) rows

    count-same : row_count u ≡ row_count t
    count-same =
        let count : List (Option (NodeCells D)) → List (Pending D) → ℕ = λ xs ws.
        sum_by (λ place. count_by (λ (c : Cell D). true) (leaf_cells_of place)) xs + count_by (λ (c : Cell D). true) (pending_rows ws) in
        ap (λ xs. count xs u.pending.items) slots ∙ ap (count t.nodes.slots) pending

    pub roomier-kept : (was : ℕ) → IsKept {D = D} record { arena = t; spare = was } → (n : ℕ) → HasRoom u (row_count t + n) → n ≤ spare u.leaves → IsKept {D = D} record { arena = u; spare = n }
    roomier-kept was k n room leaves_room = record {
      some = k.some;
      few = k.few;
      whole = whole-same k.whole;
      branched = λ h. omega (arith, k.branched (omega (arith, h, level)), root-cells);
      idle = pending ∙ k.idle;
      ids = omega (arith, ap length entries, k.ids, count-same);
      rows = omega (arith, k.rows, count-same);
      room = subst (λ m. HasRoom u (m + n)) (sym count-same) room;
      leaves_room = leaves_room;
      pending_room = omega (arith, k.pending_room, pending_room);
    }
      where
        root-cells : length (cells_at u.nodes u.root) ≡ length (cells_at t.nodes t.root)
        root-cells = with-slots (λ a. length (cells_at a u.root) ≡ length (cells_at t.nodes t.root)) (ap (λ r. length (cells_at t.nodes r)) root)

  -- the room stays where the slab grows
  pub grown-room : (t u : Arena D) (rows : ℕ) → HasRoom t rows → t.nodes.capacity ≤ u.nodes.capacity → u.nodes.capacity ≤ 2 ^ 62 → u.capacity ≡ t.capacity → HasRoom u rows
  grown-room t u rows h grows keys same = record {
    nodes = subst (λ (n : ℕ). rows + (least_fill n - 1) * 33 ≤ (least_fill n - 1) * u.nodes.capacity) (sym same)
        (let wide = mul-le-mul_left (least_fill t.capacity - 1) grows in omega (arith, wide, h.nodes));
    keys = keys;
  }
