-- An arena after a node was made of cells that were pending.
use Rattle.std.proofs.Common.{◌≡◌, ◌≢◌, ℕ, zero, suc, ◌+◌, ◌<◌, ◌≤◌, Bool, ℤ, pos, unsigned_abs, List, [], ◌∷◌, ◌++◌, length, map, get_or, Option, None, Some, is_some, IsSome, append_assoc, arith, refl, ap, ◌∙◌, sym, subst, inl, inr}
use Rattle.std.specs.Ordering.{int_eq}
use Rattle.std.specs.List.{All}
use Rattle.std.proofs.lemmas.Option.{none-some}
use Rattle.std.proofs.lemmas.Bool.{true≢false}
use Rattle.std.proofs.lemmas.List.Elements.{All-nil, All-cons, All-head, All-tail}
use Rattle.indexmap.specs.IndexMap.{get as leaf_of}
use Rattle.slab.specs.Slab.{Slab, get, slab_len, Updates, ContainsKey}
use Rattle.rt_box.specs.Capacity.{least_fill}
use Rattle.rt_box.specs.Rect.{IsBox}
use Rattle.rt_tree_node.specs.declared.arena.Arena.{Arena}
use Rattle.rt_tree_node.specs.declared.cell.Cell.{Cell}
use Rattle.rt_tree_node.specs.declared.cell.Pending.{Pending}
use Rattle.rt_tree_node.specs.Node.{NodeCells}
use Rattle.rt_tree_node.specs.Places.{key_of, times_listed, cells_of, leaf_cells_of, level_of, cells_at, level_at, hull_at, pending_rows, pending_at, count_rows}
use Rattle.rt_tree_node.specs.Sound.{Names, IsLinked}
use Rattle.rt_tree_node.specs.Open.{IsOpen}
use Rattle.rt_tree_node.proofs.Counts.{count-cons}
use Rattle.rt_tree_node.proofs.Places.{rows-joined, has_id}
use Rattle.rt_tree_node.proofs.Links.{new-at, created, All-left}
use Rattle.rt_tree_node.proofs.Homes.{homes-same, homes-pending, listed-one}
use Rattle.rt_tree_place.proofs.Arrived.{arrived}
use Rattle.rt_tree_place.proofs.Created.{no-leaf, rows-created, fitted-created}
use Rattle.rt_tree_place.proofs.Divides.{decide-either}
use Rattle.rt_tree_place.proofs.Few.{least-two}
use Rattle.rt_tree_place.proofs.Refitted.{waits-free}
use Rattle.rt_tree_place.proofs.WayDown.{present}
use Rattle.rt_tree_pack.specs.Steps.{is_top, is_top_or, above, MayPack, MayFill, Fills, PacksNode}

-- what holds of each image holds of each element
pub All-unmapped : {X Y : Type 0} (P : Y → Type 0) (f : X → Y) (xs : List X) → All P (map f xs) → All (λ x. P (f x)) xs
All-unmapped P f [] all = λ k d within. absurd (omega arith)
All-unmapped P f (x ∷ xs) all = All-cons (λ y. P (f y)) x xs (All-head P (f x) (map f xs) all) (All-unmapped P f xs (All-tail P (f x) (map f xs) all))

module _ {D : ℕ} where
  -- what holds of each pending cell holds of those for a level
  pub All-pending : (P : Pending D → Type 0) (l : ℕ) (cs : List (Cell D)) (ys : List (Pending D)) → All P (pending_at l cs ++ ys) →
      All (λ c. P record { level = l; cell = c }) cs
  All-pending P l cs ys all =
      let at : Cell D → Pending D = λ c. record { level = l; cell = c } in
      All-unmapped P at cs (All-left P (pending_at l cs) ys all)

  -- a pending row has an entry
  pub known-rows : (f : ℤ → Option ℕ) (cs : List (Cell D)) (ys : List (Pending D)) →
      ((id : ℤ) → 0 < times_listed id (pending_rows (pending_at 0 cs ++ ys)) → IsSome (f id)) → All (λ c. IsSome (f c.number)) cs
  known-rows f [] ys all = All-nil (λ c. IsSome (f c.number))
  known-rows f (c ∷ cs) ys all =
      let rest = pending_rows (pending_at 0 cs ++ ys) in
      let step = λ (id : ℤ). count-cons (has_id id) c rest in
      let alone = λ (id : ℤ). count-cons (has_id id) c [] in
      All-cons (λ q. IsSome (f q.number)) c cs
      (all c.number (let one = listed-one c.number c refl in omega (arith, one, step c.number, alone c.number)))
      (known-rows f cs ys (λ id some. all id (omega (arith, some, step id))))

  -- a pending cell above the leaves names a node
  pub named-nodes : (a : Slab (NodeCells D)) (root top l : ℕ) (cs : List (Cell D)) (ys : List (Pending D)) → IsLinked a root top (pending_at (suc l) cs ++ ys) →
      All (λ c. ContainsKey a (key_of c)) cs
  named-nodes a root top l cs ys linked =
      let P : Pending D → Type 0 = λ w. (i : ℕ) → w.level ≡ suc i → Names a i w.cell in
      let all = All-pending P (suc l) cs ys linked.pending_named in
      λ j d within. present a (key_of (get_or cs j d)) l (all j d within l refl).level_is

  -- and not the root
  pub named-others : (a : Slab (NodeCells D)) (root top l : ℕ) (cs : List (Cell D)) (ys : List (Pending D)) → IsLinked a root top (pending_at l cs ++ ys) →
      1 ≤ l → All (λ c. key_of c ≢ root) cs
  named-others a root top zero cs ys linked some = absurd (omega arith)
  named-others a root top (suc l) cs ys linked some =
      let P : Pending D → Type 0 = λ w. (i : ℕ) → w.level ≡ suc i → key_of w.cell ≢ root in
      let ws = pending_at (suc l) cs ++ ys in
      let all : All P ws = λ j d within i e same. waits-free ws root linked.root_waits_not j d within i e same in
      λ j d within. All-pending P (suc l) cs ys all j d within l refl

  -- what the cells name is there once a node is made, and is another
  pub may-fill_new : (old : Arena D) (b : Slab (NodeCells D)) (key level : ℕ) (cs : List (Cell D)) → MayPack old level cs → get old.nodes key ≡ None →
      Updates old.nodes b key (Some record { level = level; parent = None; cells = [] }) → MayFill (record old { nodes = b }) key level cs
  may-fill_new old b key level cs may vacant u = record {
    rows = may.rows;
    children = λ some j d within.
        let x = key_of (get_or cs j d) in
        let there : ContainsKey old.nodes x = may.children some j d within in
        let apart : x ≢ key = λ same. true≢false (sym there ∙ ap is_some (ap (get old.nodes) same ∙ vacant)) in
        (ap is_some (u.others x apart) ∙ there, apart);
  }

  module _ (old new : Arena D) (b : Slab (NodeCells D)) (key level : ℕ) (cs : List (Cell D)) (cell : Cell D) (may : MayPack old level cs)
      (vacant : get old.nodes key ≡ None) (u : Updates old.nodes b key (Some record { level = level; parent = None; cells = [] }))
      (len : slab_len b ≡ slab_len old.nodes + 1) (room : b.capacity ≡ old.nodes.capacity)
      (fills : Fills (record old { nodes = b }) new key level cs)
      (number_is : cell.number ≡ pos key) (rect_is : cell.rect ≡ hull_at new.nodes key) (box : IsBox D cell.rect) where
    abbrev made : NodeCells D
    made = record { level = level; parent = None; cells = [] }

    abbrev mid : Arena D
    mid = record old { nodes = b }

    abbrev arrival : Pending D
    arrival = record { level = suc level; cell = cell }

    key_is : key_of cell ≡ key
    key_is = ap unsigned_abs number_is

    here : get new.nodes key ≡ Some (record made { cells = cs })
    here = fills.here made u.changed

    module _ (ys : List (Pending D)) (was : IsOpen (is_top old.root) old (pending_at level cs ++ ys)) where
      abbrev ws : List (Pending D)
      ws = pending_at level cs ++ ys

      root-apart : old.root ≢ key
      root-apart e = none-some old.level (sym (ap level_of vacant) ∙ ap (level_at old.nodes) (sym e) ∙ was.linked.root_level)

      leaves-same : (x : ℕ) → leaf_cells_of (get b x) ≡ leaf_cells_of (get old.nodes x)
      leaves-same = new-at leaf_cells_of old.nodes b key made vacant u (no-leaf level)

      mid-open : IsOpen (is_top_or old.root key) mid (ws ++ arrival ∷ [])
      mid-open = record {
        linked = created old.nodes b old.root old.level ws key level None cell was.linked vacant may.below number_is key_is u;
        fitted = fitted-created (is_top old.root) (is_top_or old.root key) old.capacity old.nodes b old.root ws key level None cell
            (decide-either old.root key) (λ x e. inl e) (inr refl) was.fitted u key_is box;
        homes = homes-pending (leaf_of int_eq old.leaves) b ws (ws ++ arrival ∷ [])
            (λ id. let step = rows-joined (has_id id) ws (suc level) (cell ∷ []) in omega (arith, step))
            (homes-same (leaf_of int_eq old.leaves) old.nodes b ws (λ x id. ap (times_listed id) (leaves-same x)) was.homes);
      }

      moved : IsOpen (is_top_or old.root key) mid (pending_at level cs ++ (ys ++ arrival ∷ []))
      moved = subst (IsOpen (is_top_or old.root key) mid) (append_assoc (pending_at level cs) ys (arrival ∷ [])) mid-open

      filled : IsOpen (is_top_or old.root key) new (ys ++ arrival ∷ [])
      filled = fills.opened made (ys ++ arrival ∷ []) u.changed refl moved

      count : length (cells_at new.nodes key) ≡ length cs
      count = ap (λ s. length (cells_of s)) here

      new-open : IsOpen (is_top old.root) new (ys ++ above level (cell ∷ []))
      new-open =
          let low = least-two old.capacity may.cap in
          let same : new.capacity ≡ old.capacity = ap (λ t. t.capacity) fills.rest in
          let top : new.root ≡ old.root = ap (λ t. t.root) fills.rest in
          record {
            linked = filled.linked;
            fitted = arrived (is_top old.root) new.capacity new.nodes new.root new.level ys key level cell filled.linked filled.fitted key_is (ap level_of here) rect_is
                (omega (arith, low, count, may.least)) (subst (λ m. least_fill m ≤ length (cells_at new.nodes key)) (sym same) (omega (arith, count, may.least)))
                (omega (arith, same, count, may.most));
            homes = filled.homes;
          }

      new-rows : (test : Cell D → Bool) → count_rows test new.nodes (ys ++ above level (cell ∷ [])) ≡ count_rows test old.nodes ws
      new-rows test =
          let step = fills.rows made (ys ++ arrival ∷ []) u.changed refl moved test in
          let order = ap (count_rows test b) (append_assoc (pending_at level cs) ys (arrival ∷ [])) in
          let born = rows-created test old.nodes b key level None vacant u in
          let join = rows-joined test ws (suc level) (cell ∷ []) in
          omega (arith, step, order, born, join)

      new-top : get new.nodes old.root ≡ get old.nodes old.root
      new-top = fills.others old.root root-apart (named-others old.nodes old.root old.level level cs ys was.linked) ∙ u.others old.root root-apart

    kept : (x : ℕ) → x ≢ key_of cell → cells_at new.nodes x ≡ cells_at old.nodes x
    kept x other = fills.kept x (λ e. other (e ∙ sym key_is)) ∙ new-at cells_of old.nodes b key made vacant u refl x

    pub packs-node : PacksNode old new level cs cell
    packs-node = record {
      rest = fills.rest;
      ids = fills.ids;
      len = fills.len ∙ len;
      room = fills.room ∙ room;
      fresh = ap (get old.nodes) key_is ∙ vacant;
      made = ap (cells_at new.nodes) key_is ∙ ap cells_of here;
      kept = kept;
      opened = new-open;
      rows = new-rows;
      top = new-top;
    }
