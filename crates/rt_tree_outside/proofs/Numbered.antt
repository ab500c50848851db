-- The numbers of a tree's nodes are noted for all keys that its cells, parents and rows name.
use Rattle.std.proofs.Common.{◌≡◌, ℕ, zero, suc, ◌<◌, ◌≤◌, ℤ, pos, List, [], ◌∷◌, ◌++◌, length, map, get_or, Contains, Option, Some, None, arith, refl, ap, sym, ◌∙◌, subst, inl, inr}
use Rattle.std.specs.List.{All}
use Rattle.std.specs.Option.{option_map, option_map_or, ForSome, IsSomeAnd}
use Rattle.std.specs.Ordering.{int_eq}
use Rattle.std.proofs.lemmas.Bool.{cases_eq}
use Rattle.std.proofs.lemmas.Option.{same_Some, none-some}
use Rattle.std.proofs.lemmas.List.Elements.{All-head, All-tail, All-weaker}
use Rattle.slab.specs.Slab.{get}
use Rattle.indexmap.specs.IndexMap.{get as leaf_of, keys}
use Rattle.rt_box.specs.Rect.{los, his}
use Rattle.rt_check.specs.declared.node.NodeRow.{NodeRow}
use Rattle.rt_check.specs.declared.node.RawCell.{RawCell}
use Rattle.rt_check.specs.declared.node.RowEntry.{RowEntry}
use Rattle.rt_check.specs.Shadow.{ShadowLists}
use Rattle.rt_tree_node.specs.declared.arena.Arena.{Arena}
use Rattle.rt_tree_node.specs.declared.cell.Cell.{Cell}
use Rattle.rt_tree_node.specs.Node.{NodeCells}
use Rattle.rt_tree_node.specs.Places.{key_of, times_listed, cells_of, leaf_cells_at, level_of, level_at, parent_of, parent_at, pending_rows}
use Rattle.rt_tree_node.specs.Sound.{NamesChild}
use Rattle.rt_tree_walk.specs.Preorder.{tree_keys, number_in}
use Rattle.rt_tree_outside.specs.Outside.{noted, cell_row, node_row, row_entry, rising, outside, AreKnown}
use Rattle.rt_tree_walk.proofs.Reaching.{leaf-level, named-by, counted-contained}
use Rattle.rt_tree_walk.proofs.Progress.{IsSettled, settled-linked, level-within}
use Rattle.rt_tree_walk.proofs.Listed.{HasNode, listed-there, listed-contained}

pub map-agree : {X Y : Type 0} (f g : X → Y) (xs : List X) → All (λ x. f x ≡ g x) xs → map f xs ≡ map g xs
map-agree f g [] all = refl
map-agree f g (x ∷ xs) all =
    ap (λ y. y ∷ map f xs) (All-head (λ y. f y ≡ g y) x xs all) ∙ ap (λ ys. g x ∷ ys) (map-agree f g xs (All-tail (λ y. f y ≡ g y) x xs all))

module _ (f g : ℕ → ℤ) where
  option-agree : (o : Option ℕ) → ForSome o (λ p. f p ≡ g p) → option_map f o ≡ option_map g o
  option-agree None h = refl
  option-agree (Some p) h = ap Some (h p refl)

  module _ {D : ℕ} where
    cell-agree : (l : ℕ) (c : Cell D) → (0 < l → f (key_of c) ≡ g (key_of c)) → cell_row f l c ≡ cell_row g l c
    cell-agree zero c h = refl
    cell-agree (suc l) c h =
        let row : ℤ → RawCell D = λ n. record { number = n; lo = los c.rect; hi = his c.rect } in
        ap row (h (omega arith))

    -- the same numbers for the node, its parent and its children
    pub node-agree : (key : ℕ) (n : NodeCells D) → f key ≡ g key → ForSome n.parent (λ p. f p ≡ g p) → All (λ c. 0 < n.level → f (key_of c) ≡ g (key_of c)) n.cells →
        node_row f key (Some n) ≡ node_row g key (Some n)
    node-agree key n own parent children =
        let cells : List (RawCell D) = map (cell_row f n.level) n.cells in
        let row : ℤ → Option ℤ → List (RawCell D) → NodeRow D = λ k p cs. record { number = k; level = n.level; parent = p; cells = cs } in
        ap (λ k. row k (option_map f n.parent) cells) own
        ∙ ap (λ p. row (g key) p cells) (option-agree n.parent parent)
        ∙ ap (λ cs. row (g key) (option_map g n.parent) cs)
        (map-agree (cell_row f n.level) (cell_row g n.level) n.cells (All-weaker (λ c. 0 < n.level → f (key_of c) ≡ g (key_of c)) (λ c. cell_row f n.level c ≡ cell_row g n.level c)
        (λ c h. cell-agree n.level c h) n.cells children))

  entry-agree : (leaf : ℤ → Option ℕ) (id : ℤ) → ForSome (leaf id) (λ key. f key ≡ g key) → row_entry f leaf id ≡ row_entry g leaf id
  entry-agree leaf id h =
      let row : ℤ → RowEntry = λ n. record { id = id; leaf = n } in
      ap row (by (leaf id) h)
    where
      by : (o : Option ℕ) → ForSome o (λ key. f key ≡ g key) → option_map_or f o (pos 0) ≡ option_map_or g o (pos 0)
      by None h = refl
      by (Some k) h = h k refl

module _ {D : ℕ} (t : Arena D) (s : IsSettled t) where
  -- ---- the keys that a node names
  pub held : (k : ℕ) → HasNode t s k → (n : NodeCells D) × (get t.nodes k ≡ Some n)
  held k h = by (get t.nodes k) refl
    where
      by : (o : Option (NodeCells D)) → get t.nodes k ≡ o → (n : NodeCells D) × (get t.nodes k ≡ Some n)
      by None e = absurd (none-some h.0 (sym (ap level_of e) ∙ h.1))
      by (Some n) e = (n, e)

  module _ (k : ℕ) (n : NodeCells D) (e : get t.nodes k ≡ Some n) where
    own-node : HasNode t s k
    own-node = (n.level, ap level_of e)

    parent-node : ForSome n.parent (HasNode t s)
    parent-node p up =
        let at : parent_at t.nodes k ≡ Some p = ap parent_of e ∙ up in
        elim (cases_eq k t.root) [
          | inl is ↦ absurd (none-some p (sym (settled-linked t s).root_parent ∙ ap (parent_at t.nodes) (sym is) ∙ at))
          | inr ne ↦
              let named = named-by t.nodes t.root t.level (settled-linked t s) k n.level (ap level_of e) ne in
              let same : named.0 ≡ p = same_Some named.0 p (sym named.2.parent_is ∙ at) in
              (suc n.level, ap (level_at t.nodes) (sym same) ∙ named.2.level_is)
        ]

    child-nodes : All (λ c. 0 < n.level → HasNode t s (key_of c)) n.cells
    child-nodes = by n.level refl
      where
        by : (l : ℕ) → n.level ≡ l → All (λ c. 0 < n.level → HasNode t s (key_of c)) n.cells
        by zero z = λ j d h some. absurd (omega arith)
        by (suc l) z = λ j d h some.
            let all = (settled-linked t s).children k l (ap level_of e ∙ ap Some z) in
            let here : All (NamesChild t.nodes l k) n.cells = subst (λ (o : Option (NodeCells D)). All (NamesChild t.nodes l k) (cells_of o)) e all in
            (l, (here j d h).names.level_is)

  -- the leaf of a row is a node
  pub leaf-node : (id : ℤ) → ForSome (leaf_of int_eq t.leaves id) (HasNode t s)
  leaf-node id key e =
      let h = s.whole.homes.there key id e in
      let none = ap (λ ws. times_listed id (pending_rows ws)) s.none in
      let found = counted-contained (λ (c : Cell D). int_eq id c.number) (leaf_cells_at t.nodes key) (omega (arith, h, none)) in
      let leaf = leaf-level t.nodes key (let q = found.1.1 in omega arith) in
      (0, leaf.0)

  module _ (bound : ℕ) (long : length t.nodes.slots ≤ bound) where
    within : (k : ℕ) → HasNode t s k → k < bound
    within k h = let r = level-within t.nodes k h.0 h.1 in omega arith

    pub keys-within : All (λ k. k < bound) (tree_keys t)
    keys-within = All-weaker (HasNode t s) (λ k. k < bound) within (tree_keys t) (listed-there t s)

    known-at : (k : ℕ) → HasNode t s k → IsSomeAnd (get t.nodes k) (AreKnown bound k)
    known-at k h =
        let r = held k h in
        subst (λ (o : Option (NodeCells D)). IsSomeAnd o (AreKnown bound k)) (sym r.1) (record {
          own = within k h;
          parent = λ p up. within p (parent-node k r.0 r.1 p up);
          children = All-weaker (λ c. 0 < r.0.level → HasNode t s (key_of c)) (λ c. 0 < r.0.level → key_of c < bound) (λ c f some. within (key_of c) (f some)) r.0.cells (child-nodes k r.0 r.1);
        })

    pub known-nodes : All (λ k. IsSomeAnd (get t.nodes k) (AreKnown bound k)) (tree_keys t)
    known-nodes = All-weaker (HasNode t s) (λ k. IsSomeAnd (get t.nodes k) (AreKnown bound k)) known-at (tree_keys t) (listed-there t s)

    pub known-leaves : (id : ℤ) → ForSome (leaf_of int_eq t.leaves id) (λ key. key < bound)
    known-leaves id key e = within key (leaf-node id key e)

  module _ (numbers : List ℕ) (same : (key : ℕ) → Contains (tree_keys t) key → noted numbers key ≡ number_in (tree_keys t) key) where
    agree : (k : ℕ) → HasNode t s k → noted numbers k ≡ number_in (tree_keys t) k
    agree k h = same k (listed-contained t s k h.0 h.1)

    nodes-at : (k : ℕ) → HasNode t s k → node_row (noted numbers) k (get t.nodes k) ≡ node_row (number_in (tree_keys t)) k (get t.nodes k)
    nodes-at k h =
        let r = held k h in
        subst (λ (o : Option (NodeCells D)). node_row (noted numbers) k o ≡ node_row (number_in (tree_keys t)) k o) (sym r.1)
        (node-agree (noted numbers) (number_in (tree_keys t)) k r.0 (agree k h) (λ p up. agree p (parent-node k r.0 r.1 p up))
        (All-weaker (λ c. 0 < r.0.level → HasNode t s (key_of c)) (λ c. 0 < r.0.level → noted numbers (key_of c) ≡ number_in (tree_keys t) (key_of c))
        (λ c f some. agree (key_of c) (f some)) r.0.cells (child-nodes k r.0 r.1)))

    pub nodes-agree : map (λ k. node_row (noted numbers) k (get t.nodes k)) (tree_keys t) ≡ map (λ k. node_row (number_in (tree_keys t)) k (get t.nodes k)) (tree_keys t)
    nodes-agree = map-agree (λ k. node_row (noted numbers) k (get t.nodes k)) (λ k. node_row (number_in (tree_keys t)) k (get t.nodes k)) (tree_keys t)
        (All-weaker (HasNode t s) (λ k. node_row (noted numbers) k (get t.nodes k) ≡ node_row (number_in (tree_keys t)) k (get t.nodes k)) nodes-at (tree_keys t) (listed-there t s))

    pub entries-agree : (ids : List ℤ) → map (row_entry (noted numbers) (leaf_of int_eq t.leaves)) ids ≡ map (row_entry (number_in (tree_keys t)) (leaf_of int_eq t.leaves)) ids
    entries-agree ids = map-agree (row_entry (noted numbers) (leaf_of int_eq t.leaves)) (row_entry (number_in (tree_keys t)) (leaf_of int_eq t.leaves)) ids
        (λ k d h. entry-agree (noted numbers) (number_in (tree_keys t)) (leaf_of int_eq t.leaves) (get_or ids k d) (λ key e. agree key (leaf-node (get_or ids k d) key e)))

    -- the lists that are made node by node and row by row
    pub outside-made : (ns ms order : List ℕ) (ids : List ℤ) (first second third : ShadowLists D) → ns ≡ numbers → ms ≡ numbers → order ≡ tree_keys t → ids ≡ rising (keys t.leaves) →
        first ≡ record { capacity = t.capacity; root = pos 1; nodes = []; rows = [] } →
        second ≡ record first { nodes = first.nodes ++ map (λ k. node_row (noted ns) k (get t.nodes k)) order } →
        third ≡ record second { rows = second.rows ++ map (row_entry (noted ms) (leaf_of int_eq t.leaves)) ids } →
        third ≡ outside t
    outside-made ns ms order ids first second third en em eo ei e1 e2 e3 =
        let rows : List RowEntry = map (row_entry (noted ms) (leaf_of int_eq t.leaves)) ids in
        let nodes : List (NodeRow D) = map (λ k. node_row (noted ns) k (get t.nodes k)) order in
        let f : ShadowLists D → ShadowLists D = λ x. record x { rows = x.rows ++ rows } in
        let g : ShadowLists D → ShadowLists D = λ x. record x { nodes = x.nodes ++ nodes } in
        let made : List (NodeRow D) → List RowEntry → ShadowLists D = λ n r. record { capacity = t.capacity; root = pos 1; nodes = n; rows = r } in
        let nodes_are : nodes ≡ map (λ k. node_row (number_in (tree_keys t)) k (get t.nodes k)) (tree_keys t) =
        ap (λ xs. map (λ k. node_row (noted xs) k (get t.nodes k)) order) en ∙ ap (λ ks. map (λ k. node_row (noted numbers) k (get t.nodes k)) ks) eo ∙ nodes-agree in
        let rows_are : rows ≡ map (row_entry (number_in (tree_keys t)) (leaf_of int_eq t.leaves)) (rising (keys t.leaves)) =
        ap (λ xs. map (row_entry (noted xs) (leaf_of int_eq t.leaves)) ids) em ∙ ap (λ is. map (row_entry (noted numbers) (leaf_of int_eq t.leaves)) is) ei
        ∙ entries-agree (rising (keys t.leaves)) in
        e3 ∙ ap f e2 ∙ ap (λ x. f (g x)) e1 ∙ ap (λ n. made n rows) nodes_are
        ∙ ap (λ r. made (map (λ k. node_row (number_in (tree_keys t)) k (get t.nodes k)) (tree_keys t)) r) rows_are
