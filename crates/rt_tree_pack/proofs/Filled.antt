-- An arena after cells that were pending were appended to a node.
use Rattle.std.proofs.Common.{◌≡◌, ◌≢◌, ℕ, zero, suc, ◌<◌, ◌≤◌, List, [], ◌∷◌, ◌++◌, length, get_or, Option, Some, IsSome, append_assoc, arith, refl, ap, ◌∙◌, sym, subst, inr}
use Rattle.std.specs.Ordering.{int_eq}
use Rattle.std.proofs.lemmas.List.{append-nil, map-append}
use Rattle.indexmap.specs.IndexMap.{get as leaf_of, keys, spare, index_map_len}
use Rattle.slab.specs.Slab.{Slab, get, slab_len, ContainsKey}
use Rattle.rt_tree_node.specs.declared.arena.Arena.{Arena}
use Rattle.rt_tree_node.specs.declared.cell.Cell.{Cell}
use Rattle.rt_tree_node.specs.declared.cell.Pending.{Pending}
use Rattle.rt_tree_node.specs.Node.{NodeCells}
use Rattle.rt_tree_node.specs.Places.{key_of, cells_of, level_of, cells_at, level_at, count_rows, pending_at}
use Rattle.rt_tree_node.specs.Homes.{KeepsIds}
use Rattle.rt_tree_node.specs.Open.{IsOpen}
use Rattle.rt_tree_node.proofs.Links.{same-at, All-left}
use Rattle.rt_tree_place.specs.Steps.{Attaches}
use Rattle.rt_tree_place.proofs.Adopted.{kept-present, some-node, last-of}
use Rattle.rt_tree_place.proofs.Attached.{attached, rows-attached}
use Rattle.rt_tree_place.proofs.Divides.{decide-either}
use Rattle.rt_tree_place.proofs.NewRow.{known-by_keys}
use Rattle.rt_tree_pack.specs.Steps.{is_top_or, MayFill, Fills}

module _ {D : ℕ} where
  pub split-pending : (l : ℕ) (xs ys : List (Cell D)) (zs : List (Pending D)) → pending_at l (xs ++ ys) ++ zs ≡ pending_at l xs ++ (pending_at l ys ++ zs)
  split-pending l xs ys zs =
      let at : Cell D → Pending D = λ c. record { level = l; cell = c } in
      ap (λ ws. ws ++ zs) (map-append at xs ys) ∙ append_assoc (pending_at l xs) (pending_at l ys) zs

  -- the cell is the node's last, and what it names may have changed beside
  pub record Adds (t u : Arena D) (key level : ℕ) (c : Cell D) (n : NodeCells D) : Type 0 where
    pub here : get u.nodes key ≡ Some (record n { cells = n.cells ++ c ∷ [] })
    pub others : (x : ℕ) → x ≢ key → (1 ≤ level → key_of c ≢ x) → get u.nodes x ≡ get t.nodes x
    pub kept : (x : ℕ) → x ≢ key → cells_at u.nodes x ≡ cells_at t.nodes x
    pub levels : (x : ℕ) → level_at u.nodes x ≡ level_at t.nodes x
    pub ids : KeepsIds t.leaves u.leaves
    pub len : slab_len u.nodes ≡ slab_len t.nodes
    pub room : u.nodes.capacity ≡ t.nodes.capacity

  adds : (t u : Arena D) (key level : ℕ) (c : Cell D) (n : NodeCells D) → Attaches t u key record { level = level; cell = c } →
      get t.nodes key ≡ Some n → (1 ≤ level → ContainsKey t.nodes (key_of c) × (key_of c ≢ key)) → Adds t u key level c n
  adds t u key zero c n at has child =
      let both = at.row refl in
      let put = both.1 n has in
      record {
        here = put.updates.changed;
        others = λ x ne free. put.updates.others x ne;
        kept = λ x ne. ap cells_of (put.updates.others x ne);
        levels = same-at level_of t.nodes u.nodes key n (record n { cells = n.cells ++ c ∷ [] }) has put.updates refl;
        ids = both.0.keeps;
        len = put.len;
        room = put.room;
      }
  adds t u key (suc l) c n at has child =
      let some : 1 ≤ suc l = omega arith in
      let parts = at.child some in
      let mid : Slab (NodeCells D) = parts.1 in
      let named = some-node (get t.nodes (key_of c)) (child some).0 in
      let m = named.0 in
      let first = parts.2 m named.1 in
      let has_mid : get mid key ≡ Some n = first.updates.others key (λ e. (child some).1 (sym e)) ∙ has in
      let second = parts.3 n has_mid in
      record {
        here = second.updates.changed;
        others = λ x ne free. second.updates.others x ne ∙ first.updates.others x (λ e. free some (sym e));
        kept = λ x ne.
            ap cells_of (second.updates.others x ne)
            ∙ same-at cells_of t.nodes mid (key_of c) m (record m { parent = Some key }) named.1 first.updates refl x;
        levels = λ x.
            same-at level_of mid u.nodes key n (record n { cells = n.cells ++ c ∷ [] }) has_mid second.updates refl x
            ∙ same-at level_of t.nodes mid (key_of c) m (record m { parent = Some key }) named.1 first.updates refl x;
        ids = record { ids = ap keys parts.0; len = ap index_map_len parts.0; room = ap spare parts.0 };
        len = second.len ∙ first.len;
        room = second.room ∙ first.room;
      }

  pub fills-none : (t : Arena D) (key level : ℕ) → Fills t t key level []
  fills-none t key level = record {
    rest = refl;
    here = λ n has. let whole : List (Cell D) → Option (NodeCells D) = λ cells. Some (record n { cells = cells }) in has ∙ ap whole (sym (append-nil n.cells));
    others = λ x ne free. refl;
    kept = λ x ne. refl;
    levels = λ x. refl;
    ids = record { ids = refl; len = refl; room = refl };
    len = refl;
    room = refl;
    opened = λ n ys has at is. is;
    rows = λ n ys has at is test. refl;
  }

  pub fills-more : (s t u : Arena D) (key level : ℕ) (cs : List (Cell D)) (c : Cell D) (n : NodeCells D) → Fills s t key level cs → get s.nodes key ≡ Some n →
      Attaches t u key record { level = level; cell = c } → (1 ≤ level → ContainsKey t.nodes (key_of c) × (key_of c ≢ key)) → Fills s u key level (cs ++ c ∷ [])
  fills-more s t u key level cs c n so_far has at child =
      let w : Pending D = record { level = level; cell = c } in
      let step = λ (m : NodeCells D) (is : get s.nodes key ≡ Some m). adds t u key level c (record m { cells = m.cells ++ cs }) at (so_far.here m is) child in
      let one = step n has in
      let with : Arena D → Arena D = λ v. record v { nodes = u.nodes; leaves = u.leaves } in
      record {
        rest = at.rest ∙ ap with so_far.rest;
        here = λ m is. let whole : List (Cell D) → Option (NodeCells D) = λ cells. Some (record m { cells = cells }) in
            (step m is).here ∙ ap whole (append_assoc m.cells cs (c ∷ []));
        others = λ x ne free.
            one.others x ne (λ some. last-of (λ q. key_of q ≢ x) cs c (free some))
            ∙ so_far.others x ne (λ some. All-left (λ q. key_of q ≢ x) cs (c ∷ []) (free some));
        kept = λ x ne. one.kept x ne ∙ so_far.kept x ne;
        levels = λ x. one.levels x ∙ so_far.levels x;
        ids = record { ids = one.ids.ids ∙ so_far.ids.ids; len = one.ids.len ∙ so_far.ids.len; room = one.ids.room ∙ so_far.ids.room };
        len = one.len ∙ so_far.len;
        room = one.room ∙ so_far.room;
        opened = λ m ys is at_level open_is.
            let mid : IsOpen (is_top_or s.root key) t (w ∷ ys) =
            so_far.opened m (w ∷ ys) is at_level (subst (IsOpen (is_top_or s.root key) s) (split-pending level cs (c ∷ []) ys) open_is) in
            attached (is_top_or s.root key) (decide-either s.root key) t u key (record m { cells = m.cells ++ cs }) [] w ys mid (inr refl) (so_far.here m is) (sym at_level) at;
        rows = λ m ys is at_level open_is test.
            let moved = subst (IsOpen (is_top_or s.root key) s) (split-pending level cs (c ∷ []) ys) open_is in
            let mid : IsOpen (is_top_or s.root key) t (w ∷ ys) = so_far.opened m (w ∷ ys) is at_level moved in
            rows-attached (is_top_or s.root key) (decide-either s.root key) t u key (record m { cells = m.cells ++ cs }) [] w ys mid (inr refl) (so_far.here m is) (sym at_level) at test
            ∙ so_far.rows m (w ∷ ys) is at_level moved test
            ∙ ap (count_rows test s.nodes) (sym (split-pending level cs (c ∷ []) ys));
      }

  -- what a cell names stays there
  pub still-known : (s t : Arena D) (key level : ℕ) (cells done : List (Cell D)) (i : ℕ) (c : Cell D) → Fills s t key level done → MayFill s key level cells →
      i < length cells → c ≡ get_or cells i c → level ≡ 0 → IsSome (leaf_of int_eq t.leaves c.number)
  still-known s t key level cells done i c so_far may within is leaf =
      let old : IsSome (leaf_of int_eq s.leaves c.number) = subst (λ (q : Cell D). IsSome (leaf_of int_eq s.leaves q.number)) (sym is) (may.rows leaf i c within) in
      known-by_keys (int_eq c.number) t.leaves.entries s.leaves.entries so_far.ids.ids ∙ old

  pub still-named : (s t : Arena D) (key level : ℕ) (cells done : List (Cell D)) (i : ℕ) (c : Cell D) → Fills s t key level done → MayFill s key level cells →
      i < length cells → c ≡ get_or cells i c → 1 ≤ level → ContainsKey t.nodes (key_of c) × (key_of c ≢ key)
  still-named s t key level cells done i c so_far may within is some =
      let old : ContainsKey s.nodes (key_of c) × (key_of c ≢ key) = subst (λ (q : Cell D). ContainsKey s.nodes (key_of q) × (key_of q ≢ key)) (sym is) (may.children some i c within) in
      (kept-present s.nodes t.nodes (key_of c) (so_far.levels (key_of c)) old.0, old.1)
